use Rattle.std.proofs.Common.{refl}
use Rattle.std.proofs.lemmas.Result.{err_from_is_err_and}
use Rattle.walrus_tools.specs.FunctionMeaning.{texts}
use Rattle.walrus_tools.proofs.TrapWhole.{meant_refused, traps_all}
use Rattle.walrus_tools.proofs.trap_bodies.trap_meant.Goals as goal

pub returns-in_err-marks : goal.returns-in_err-marks
returns-in_err-marks g c =
    let p = err_from_is_err_and c.from_residual.result c.from_residual.ensures.1 in
    rw (p.1, p.2) (λ config whole. meant_refused config c.args.module.now whole (texts c.args.meant.now) _ c.in_err-marks.ensures)

pub returns : goal.returns
returns g c = traps_all (texts c.args.meant.now) c.args.module.now _ c.in_ok-marks.marks c.in_ok-marks.ensures refl c.trap_marked.result c.trap_marked.ensures
