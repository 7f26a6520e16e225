use Rattle.wasm_wire.proofs.NamedRules.{kept_each, each_kept}
use Rattle.wasm_wire.proofs.rules.broken.rules_are_these.Goals as goal

pub returns : goal.returns
returns c = λ d m. (each_kept d m, kept_each d m)
