use Rattle.std.proofs.Common.{subst}
use Rattle.std.proofs.lemmas.Result.{err_from_is_err_and}
use Rattle.walrus_contents.specs.There.{IsRefusal}
use Rattle.walrus_model.specs.Abstract.{Abstract}
use Rattle.walrus_model.specs.Dead.{HasDead}
use Rattle.walrus_module.proofs.EmissionForms.{dead_answered}
use Rattle.walrus_module.proofs.emit.Module.emit.Goals as goal

pub returns-in_err-check_live : goal.returns-in_err-check_live
returns-in_err-check_live g c =
    let p = err_from_is_err_and c.from_residual.result c.from_residual.ensures.1 in
    rw (p.1, p.2) (dead_answered _ c.args.self.now c.args.tells c.in_err-check_live.field-0.0 (subst (λ (v : Abstract). IsRefusal (HasDead v) c.in_err-check_live.field-0.0) c.parts.ensures c.in_err-check_live.ensures))

pub emit_live-requires : goal.emit_live-requires
emit_live-requires g c = subst (λ (v : Abstract). HasDead v → ⊥) c.parts.ensures c.in_ok-check_live.ensures
