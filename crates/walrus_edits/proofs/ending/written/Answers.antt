use Rattle.std.proofs.lemmas.Result.{err_from_is_err_and}
use Rattle.walrus_edits.specs.Ending.{Unchecked}
use Rattle.walrus_edits.proofs.ending.written.Goals as goal

pub returns-in_err-diagnose : goal.returns-in_err-diagnose
returns-in_err-diagnose g c = λ formed.
    let p = err_from_is_err_and c.from_residual.result c.from_residual.ensures.1 in
    rw (p.1, p.2) (Unchecked c.in_err-diagnose.ensures)

pub returns-in_err-output : goal.returns-in_err-output
returns-in_err-output g c = λ formed.
    let p = err_from_is_err_and c.from_residual-in_err-output.result c.from_residual-in_err-output.ensures.1 in
    rw (p.1, p.2) (c.in_err-output.ensures formed c.in_ok-diagnose.ensures)

pub returns : goal.returns
returns g c = λ formed. c.in_ok-output.ensures formed c.in_ok-diagnose.ensures
