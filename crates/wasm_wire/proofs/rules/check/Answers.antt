use Rattle.wasm_wire.proofs.NamedRules.{kept_each}
use Rattle.wasm_wire.proofs.rules.check.Goals as goal

pub returns-in-Some : goal.returns-in-Some
returns-in-Some c = λ keeps. (rw c.in-Some.is at c.in_ok-broken_rule.ensures) (kept_each _ _ keeps _)
