use Rattle.std.proofs.Common.{ap, refl, ◌∙◌}
use Rattle.std.proofs.lemmas.Result.{err_from_is_err_and}
use Rattle.std.specs.Prelude.{Err, Ok}
use Rattle.walrus.specs.Modules.Flags.{Flags}
use Rattle.walrus.specs.Modules.Settings.{settings}
use Rattle.walrus.proofs.FinishLemmas.{finished, none_dead, search_refused, sections_stay}
use Rattle.walrus_tools.proofs.WeighEnds.{no_input, not_finished, told}
use Rattle.walrus_tools.proofs.weigh.finished_weighed.Goals as goal

pub returns-in_err-run : goal.returns-in_err-run
returns-in_err-run g c =
    let p = err_from_is_err_and c.from_residual.result c.from_residual.ensures.1 in
    rw (p.1, p.2) (not_finished _ c.args.module c.args.module c.args.bytes.now c.args.before _ (search_refused _ c.args.module c.requires _ c.in_err-run.ensures.refused))

pub returns-in_err-bodies : goal.returns-in_err-bodies
returns-in_err-bodies g c =
    let p = err_from_is_err_and c.from_residual-in_err-bodies.result c.from_residual-in_err-bodies.ensures.1 in
    rw (p.1, p.2) (no_input _ c.args.module c.args.module c.args.bytes.now c.args.before _ c.in_err-bodies.ensures)

pub emit_whole-requires : goal.emit_whole-requires
emit_whole-requires g c = none_dead _ c.args.module c.requires c.run.new.module c.in_ok-run.ensures.collected

pub returns-in_err-output : goal.returns-in_err-output
returns-in_err-output g c =
    let p = err_from_is_err_and c.from_residual-in_err-output.result c.from_residual-in_err-output.ensures.1 in
    let kept = c.run.new.module in
    let left = c.emit_whole.new.self in
    let ran = c.in_ok-run.ensures in
    let wrote = c.in_err-output.ensures in
    rw (p.1, p.2) (not_finished _ c.args.module kept c.args.bytes.now c.args.before _
    (finished _ c.args.module c.requires kept left ran.collected ran.others.customs
    (sections_stay _ _ _ kept.customs left.customs (Err c.in_err-output.field-0.0) (settings kept).preserve_code_transform (ap (λ (f : Flags). f.preserve_code_transform) ran.others.settings ∙ c.requires.still) wrote.customs)
    (settings kept) ran.others.settings (Err c.in_err-output.field-0.0) wrote.left wrote.well_made))

pub returns : goal.returns
returns g c =
    let kept = c.run.new.module in
    let left = c.emit_whole.new.self in
    let ran = c.in_ok-run.ensures in
    let wrote = c.in_ok-output.ensures in
    let written = finished _ c.args.module c.requires kept left ran.collected ran.others.customs
    (sections_stay _ _ _ kept.customs left.customs (Ok c.in_ok-output.output) (settings kept).preserve_code_transform (ap (λ (f : Flags). f.preserve_code_transform) ran.others.settings ∙ c.requires.still) wrote.customs)
    (settings kept) ran.others.settings (Ok c.in_ok-output.output) wrote.left wrote.well_made in
    told _ c.args.module kept ran c.args.bytes.now c.in_ok-output.output.items c.args.before _ _ _ _ _ written c.kinds_of-after.ensures c.in_ok-bodies.ensures refl (c.len.ensures ∙ c.in_ok-output.output.ok.0)
