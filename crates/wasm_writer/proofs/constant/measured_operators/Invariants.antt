use Rattle.std.proofs.Common.{◌≡◌, ◌<◌, ◌^◌, length, take}
use Rattle.wasm_forms.specs.Spelling.{row_bytes}
use Rattle.wasm_entries.specs.Spelling.{const_bytes}
use Rattle.wasm_writer.proofs.constant.measured_operators.Given as goal

abbrev pub invariant-operators : goal.invariant-operators
invariant-operators l = record {
  counted : l.total ≡ length (row_bytes const_bytes (take l.operator-index l.operators));
  small : l.total < 2 ^ 32;
}
