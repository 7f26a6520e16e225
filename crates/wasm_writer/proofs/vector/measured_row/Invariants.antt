use Rattle.std.proofs.Common.{◌≡◌, ◌<◌, ◌^◌, length, take}
use Rattle.wasm_forms.specs.Writing.{EachFits}
use Rattle.wasm_forms.specs.Spelling.{row_bytes}
use Rattle.wasm_writer.proofs.vector.measured_row.Given as goal

abbrev pub invariant-items : goal.invariant-items
invariant-items g l = record {
  counted : l.total ≡ length (row_bytes g.E.Written.spelled (take l.item-index l.items));
  small : l.total < 2 ^ 32;
  fit : EachFits g.E.Written.Fits (take l.item-index l.items);
}
