use Rattle.std.proofs.lemmas.Result.{err_from_is_err_and}
use Rattle.walrus_sections.specs.Choice.{choices_seen}
use Rattle.walrus_tools.proofs.MatchingEnds.{stubs_those}
use Rattle.walrus_tools.proofs.tool.stub_matching.stub_chosen.Goals as goal

pub returns-in_err-marks : goal.returns-in_err-marks
returns-in_err-marks g c =
    let p = err_from_is_err_and c.from_residual.result c.from_residual.ensures.1 in
    rw (p.1, p.2) (λ config whole. c.in_err-marks.ensures)

pub returns : goal.returns
returns g c =
    stubs_those (choices_seen c.args.modules.now) (choices_seen c.args.names.now) c.args.module.now _ c.in_ok-marks.marks c.in_ok-marks.ensures.0 c.in_ok-marks.ensures.1 c.trap_hits.result c.trap_hits.ensures
