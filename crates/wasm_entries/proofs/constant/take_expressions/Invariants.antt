use Rattle.std.proofs.Common.{◌≡◌, ◌-◌, map}
use Rattle.wasm_forms.specs.Reading.{◌>>=◌}
use Rattle.wasm_forms.specs.Grammar.{at, row_at, behind}
use Rattle.wasm_entries.specs.Record.{expression}
use Rattle.wasm_entries.specs.Forms.{expression_form}
use Rattle.wasm_entries.proofs.constant.take_expressions.Given as goal

abbrev pub invariant-expressions : goal.invariant-expressions
invariant-expressions l = row_at (at expression_form) l.count l.bytes ≡ (row_at (at expression_form) (l.count - l._taken) l.rest >>= behind (map expression l.expressions.items))
