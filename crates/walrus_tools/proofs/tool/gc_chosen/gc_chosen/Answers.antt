use Rattle.std.proofs.Common.{ap, refl, ◌∙◌, subst}
use Rattle.std.specs.Prelude.{Err}
use Rattle.std.proofs.lemmas.Result.{err_from_is_err_and}
use Rattle.walrus.specs.Modules.Flags.{Flags, config_of, flags}
use Rattle.walrus.specs.Modules.Settings.{settings}
use Rattle.walrus_sections.specs.Choice.{choices_seen}
use Rattle.walrus_tools.specs.ChosenModule.{AnswersChosen, KeepsChosen, RefusesChosen}
use Rattle.walrus_tools.proofs.ChosenEnds.{bytes_refused, chosen_held, chosen_whole}
use Rattle.walrus.proofs.EditEnds.{edit_finishes, edit_refused, parsed_whole, ready}
use Rattle.walrus_tools.proofs.tool.gc_chosen.gc_chosen.Goals as goal

pub returns-in_err-module : goal.returns-in_err-module
returns-in_err-module c =
    let choices = choices_seen c.args.choices.now in
    let p = err_from_is_err_and c.from_residual.result c.from_residual.ensures.1 in
    let same = c.of_choices-config.ensures.value in
    rw (p.1, p.2) (subst (λ (f : Flags). AnswersChosen (config_of f) c.args.bytes.now choices (Err c.in_err-module.field-0.0)) same
    (bytes_refused (config_of (flags c.of_choices-config.result)) c.args.bytes.now choices _ c.in_err-module.ensures))

pub returns-in_err-keep_chosen : goal.returns-in_err-keep_chosen
returns-in_err-keep_chosen c =
    let choices = choices_seen c.args.choices.now in
    let read = c.in_ok-module in
    let p = err_from_is_err_and c.from_residual-in_err-keep_chosen.result c.from_residual-in_err-keep_chosen.ensures.1 in
    let same = c.of_choices-config.ensures.value in
    rw (p.1, p.2) (subst (λ (f : Flags). AnswersChosen (config_of f) c.args.bytes.now choices (Err c.in_err-keep_chosen.field-0.0)) same
    (edit_refused _ (KeepsChosen choices) (RefusesChosen choices) (config_of (flags c.of_choices-config.result)) c.args.bytes.now read.module read.ensures.found (λ k h. h) (λ h. h) _ c.in_err-keep_chosen.ensures))

pub finished_ready-requires : goal.finished_ready-requires
finished_ready-requires c =
    let choices = choices_seen c.args.choices.now in
    let read = c.in_ok-module in
    let f = flags c.of_choices-config.result in
    let kept = c.in_ok-keep_chosen.ensures in
    let whole = parsed_whole _ (KeepsChosen choices) (RefusesChosen choices) (config_of f) c.args.bytes.now read.module read.ensures.found in
    let same = c.of_choices-config.ensures.value in
    ready _ (KeepsChosen choices) (RefusesChosen choices) (config_of f) c.args.bytes.now read.module read.ensures.found
    _ (chosen_held choices read.module _ kept) (ap (λ m. m.customs) kept.others) (chosen_whole choices read.module _ kept (config_of f) whole) read.ensures.kept.raws read.ensures.kept.are
    f (ap settings kept.others ∙ read.ensures.configured) refl (ap (λ (g : Flags). g.preserve_code_transform) same)

pub returns : goal.returns
returns c =
    let choices = choices_seen c.args.choices.now in
    let read = c.in_ok-module in
    let f = flags c.of_choices-config.result in
    let kept = c.in_ok-keep_chosen.ensures in
    let whole = parsed_whole _ (KeepsChosen choices) (RefusesChosen choices) (config_of f) c.args.bytes.now read.module read.ensures.found in
    let same = c.of_choices-config.ensures.value in
    subst (λ (g : Flags). AnswersChosen (config_of g) c.args.bytes.now choices c.finished_ready.result) same
    (edit_finishes _ (KeepsChosen choices) (RefusesChosen choices) (config_of f) c.args.bytes.now read.module read.ensures.found
    _ (chosen_held choices read.module _ kept) (ap (λ m. m.customs) kept.others) (chosen_whole choices read.module _ kept (config_of f) whole) read.ensures.kept.raws read.ensures.kept.are
    f (ap settings kept.others ∙ read.ensures.configured) refl (ap (λ (g : Flags). g.preserve_code_transform) same) c.finished_ready.result c.finished_ready.ensures)
