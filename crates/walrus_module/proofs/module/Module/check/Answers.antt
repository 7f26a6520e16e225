use Rattle.std.proofs.lemmas.Result.{err_from_is_err_and}
use Rattle.walrus_module.specs.View.{held_view}
use Rattle.walrus_module.proofs.Checked.{flaw_refused}
use Rattle.walrus_module.proofs.module.Module.check.Goals as goal

pub returns-in_err-diagnose : goal.returns-in_err-diagnose
returns-in_err-diagnose g c =
    let p = err_from_is_err_and c.from_residual.result c.from_residual.ensures.1 in
    rw (p.1, p.2) (flaw_refused (held_view c.args.self.now) _ c.in_err-diagnose.ensures)
