use Rattle.std.proofs.Common.{◌≡◌, ◌<◌, ◌^◌, length, take}
use Rattle.wasm_forms.specs.Spelling.{row_bytes}
use Rattle.wasm_entries.specs.Record.{expression}
use Rattle.wasm_entries.specs.Spelling.{expression_bytes}
use Rattle.wasm_writer.proofs.constant.measured_each.Given as goal

abbrev pub invariant-expressions : goal.invariant-expressions
invariant-expressions l = record {
  counted : l.total ≡ length (row_bytes (λ e. expression_bytes (expression e)) (take l.listed-index l.expressions));
  small : l.total < 2 ^ 32;
}
