use Rattle.std.proofs.Common.{ap, refl, ◌∙◌, subst}
use Rattle.std.proofs.lemmas.Result.{err_from_is_err_and}
use Rattle.std.specs.Prelude.{Err}
use Rattle.walrus.specs.Modules.Flags.{Flags, config_of, flags}
use Rattle.walrus.specs.Modules.Settings.{settings}
use Rattle.walrus_sections.specs.Choice.{choices_seen}
use Rattle.walrus_tools.specs.ChosenModule.{KeepsChosen, RefusesChosen}
use Rattle.walrus_tools.specs.Weigh.{AnswersWeighed}
use Rattle.walrus_tools.proofs.ChosenEnds.{chosen_held, chosen_whole}
use Rattle.walrus.proofs.EditEnds.{edit_refused, parsed_whole, ready}
use Rattle.walrus_tools.proofs.WeighEnds.{edit_weighs, refused_weighed}
use Rattle.walrus_tools.proofs.tool.gc_counted.gc_counted.Goals as goal

pub returns-in_err-keep_chosen : goal.returns-in_err-keep_chosen
returns-in_err-keep_chosen c =
    let choices = choices_seen c.args.choices.now in
    let f = flags c.of_choices-config.result in
    let read = c.in_ok-module in
    let same = c.of_choices-config.ensures.value in
    let p = err_from_is_err_and c.from_residual-in_err-keep_chosen.result c.from_residual-in_err-keep_chosen.ensures.1 in
    rw (p.1, p.2) (subst (λ (g : Flags). AnswersWeighed (KeepsChosen choices) (RefusesChosen choices) (config_of g) c.args.bytes.now (Err c.in_err-keep_chosen.field-0.0)) same
    (refused_weighed (KeepsChosen choices) (RefusesChosen choices) (config_of f) c.args.bytes.now _
    (edit_refused _ (KeepsChosen choices) (RefusesChosen choices) (config_of f) c.args.bytes.now read.module read.ensures.found (λ k h. h) (λ h. h) _ c.in_err-keep_chosen.ensures)))

pub finished_weighed-requires : goal.finished_weighed-requires
finished_weighed-requires c =
    let choices = choices_seen c.args.choices.now in
    let read = c.in_ok-module in
    let f = flags c.of_choices-config.result in
    let whole = parsed_whole _ (KeepsChosen choices) (RefusesChosen choices) (config_of f) c.args.bytes.now read.module read.ensures.found in
    let done = c.in_ok-keep_chosen.ensures in
    ready _ (KeepsChosen choices) (RefusesChosen choices) (config_of f) c.args.bytes.now read.module read.ensures.found
    _ (chosen_held choices read.module _ done) (ap (λ m. m.customs) done.others) (chosen_whole choices read.module _ done (config_of f) whole) read.ensures.kept.raws read.ensures.kept.are
    f (ap settings done.others ∙ read.ensures.configured) refl (ap (λ (g : Flags). g.preserve_code_transform) c.of_choices-config.ensures.value)

pub returns : goal.returns
returns c =
    let choices = choices_seen c.args.choices.now in
    let read = c.in_ok-module in
    let f = flags c.of_choices-config.result in
    let whole = parsed_whole _ (KeepsChosen choices) (RefusesChosen choices) (config_of f) c.args.bytes.now read.module read.ensures.found in
    let done = c.in_ok-keep_chosen.ensures in
    subst (λ (g : Flags). AnswersWeighed (KeepsChosen choices) (RefusesChosen choices) (config_of g) c.args.bytes.now c.finished_weighed.result) c.of_choices-config.ensures.value
    (edit_weighs _ (KeepsChosen choices) (RefusesChosen choices) (config_of f) c.args.bytes.now read.module read.ensures.found c.kinds_of-before.result c.kinds_of-before.ensures
    _ (chosen_held choices read.module _ done) (ap (λ m. m.customs) done.others) (chosen_whole choices read.module _ done (config_of f) whole) f (ap settings done.others ∙ read.ensures.configured) refl c.finished_weighed.result c.finished_weighed.ensures)
