use Rattle.std.proofs.Common.{◌≡◌, ◌≤◌, ◌++◌, take, vec_capacity}
use Rattle.wasm_forms.specs.Writing.{EachFits}
use Rattle.wasm_forms.specs.Spelling.{row_bytes}
use Rattle.wasm_forms.proofs.write.write_row.Given as goal

abbrev pub invariant-items : goal.invariant-items
invariant-items g l = record {
  written : l.to.items ≡ l.fn.to.items ++ row_bytes g.E.Written.spelled (take l.item-index l.items);
  fit : EachFits g.E.Written.Fits (take l.item-index l.items);
  room : vec_capacity l.fn.to ≤ vec_capacity l.to;
}
