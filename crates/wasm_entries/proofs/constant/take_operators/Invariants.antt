use Rattle.std.proofs.Common.{◌≡◌, ◌-◌, length}
use Rattle.wasm_forms.specs.Reading.{◌>>=◌}
use Rattle.wasm_forms.specs.Grammar.{at, until_at, behind}
use Rattle.wasm_entries.specs.Forms.{const_from}
use Rattle.wasm_entries.proofs.constant.take_operators.Given as goal

abbrev pub invariant-operators : goal.invariant-operators
invariant-operators l = until_at (λ b. at (const_from b)) 11 (length l.bytes) l.bytes ≡ (until_at (λ b. at (const_from b)) 11 (length l.bytes - l._turn) l.rest >>= behind l.operators.items)
