use Rattle.std.proofs.Common.{◌≡◌, ◌≤◌, ◌++◌, take, vec_capacity}
use Rattle.wasm_forms.specs.Spelling.{row_bytes}
use Rattle.wasm_entries.specs.Spelling.{const_bytes}
use Rattle.wasm_entries.proofs.operator.write_operators.Given as goal

abbrev pub invariant-operators : goal.invariant-operators
invariant-operators l = record {
  written : l.to.items ≡ l.fn.to.items ++ row_bytes const_bytes (take l.operator-index l.operators);
  room : vec_capacity l.fn.to ≤ vec_capacity l.to;
}
