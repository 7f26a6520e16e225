use Rattle.std.proofs.Common.{◌≡◌, ◌≤◌, ◌++◌, take, map, vec_capacity}
use Rattle.wasm_forms.specs.Spelling.{row_bytes}
use Rattle.wasm_entries.specs.Record.{expression}
use Rattle.wasm_entries.specs.Spelling.{expression_bytes}
use Rattle.wasm_entries.proofs.operator.write_each.Given as goal

abbrev pub invariant-expressions : goal.invariant-expressions
invariant-expressions l = record {
  written : l.to.items ≡ l.fn.to.items ++ row_bytes expression_bytes (map expression (take l.listed-index l.expressions));
  room : vec_capacity l.fn.to ≤ vec_capacity l.to;
}
