use Rattle.std.proofs.Common.{ap, ◌∙◌}
use Rattle.std.proofs.lemmas.Result.{err_from_is_err_and}
use Rattle.walrus_module.specs.Flags.{Flags}
use Rattle.walrus_module.specs.Settings.{settings}
use Rattle.walrus.proofs.FinishLemmas.{finished, none_dead, search_refused, sections_stay}
use Rattle.walrus.proofs.finish.finished_ready.Goals as goal

pub returns-in_err-run : goal.returns-in_err-run
returns-in_err-run g c = λ ready.
    let p = err_from_is_err_and c.from_residual.result c.from_residual.ensures.1 in
    rw (p.1, p.2) (search_refused _ c.args.module ready _ c.in_err-run.ensures.refused)

pub emit_whole-requires : goal.emit_whole-requires
emit_whole-requires g c = none_dead _ c.args.module c.requires c.run.new.module c.in_ok-run.ensures.collected

pub returns : goal.returns
returns g c = λ ready.
    let kept = c.run.new.module in
    let left = c.emit_whole.new.self in
    finished _ c.args.module ready kept left c.in_ok-run.ensures.collected c.in_ok-run.ensures.others.customs
    (sections_stay _ _ _ kept.customs left.customs c.emit_whole.result (settings kept).preserve_code_transform (ap (λ (f : Flags). f.preserve_code_transform) c.in_ok-run.ensures.others.settings ∙ ready.still) c.emit_whole.ensures.customs)
    (settings kept) c.in_ok-run.ensures.others.settings c.emit_whole.result c.emit_whole.ensures.left c.emit_whole.ensures.well_made
