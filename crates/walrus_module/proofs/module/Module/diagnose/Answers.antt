use Rattle.std.proofs.Common.{subst}
use Rattle.std.specs.Prelude.{MatchResult}
use Rattle.walrus_model.specs.Abstract.{Abstract}
use Rattle.walrus_module.specs.Check.{IsFlaw, PassesCheck}
use Rattle.walrus_module.proofs.module.Module.diagnose.Goals as goal

pub returns : goal.returns
returns g c = subst (λ (v : Abstract). MatchResult c.diagnose_parts.result (λ _. PassesCheck v) (IsFlaw v)) c.parts.ensures c.diagnose_parts.ensures
