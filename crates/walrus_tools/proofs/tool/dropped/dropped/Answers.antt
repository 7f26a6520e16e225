use Rattle.std.proofs.Common.{ap, refl, List, ℕ, map, subst, sym}
use Rattle.std.proofs.lemmas.Result.{err_from_is_err_and}
use Rattle.std.specs.Global.{Vec}
use Rattle.std.specs.Prelude.{Err, Ok}
use Rattle.walrus.specs.Model.Config.{Config}
use Rattle.walrus.specs.Modules.Flags.{Flags, config_of, flags}
use Rattle.walrus_sections.specs.Choice.{Choice, choices_seen}
use Rattle.walrus_tools.specs.ChosenModule.{RefusesChosen}
use Rattle.walrus_tools.specs.DroppedList.{AnswersDropped, IsDropped}
use Rattle.walrus.specs.Edits.{RefusesEdit}
use Rattle.walrus_tools.specs.FunctionList.{listed_seen}
use Rattle.walrus_sections.specs.Parts.{HasParts, part_record}
use Rattle.walrus_sections.specs.declared.parts.Part.{Part as RawPart}
use Rattle.walrus_tools.specs.declared.tool.list.Listed.{Listed}
use Rattle.walrus_tools.proofs.ChosenListed.{chosen_ready, dropped_told, unchosen, unparted, unread, unsearched}
use Rattle.walrus_tools.proofs.tool.dropped.dropped.Goals as goal

-- what such a list is
abbrev Done : (c : Config) (bytes : List ℕ) (choices : List Choice) → Vec Listed → Type 0
Done c bytes choices list = IsDropped c bytes choices (map listed_seen list.items)

pub returns-in_err-module : goal.returns-in_err-module
returns-in_err-module c =
    let choices = choices_seen c.args.choices.now in
    let p = err_from_is_err_and c.from_residual.result c.from_residual.ensures.1 in
    let same = c.of_choices-config.ensures.value in
    let d = config_of (flags c.of_choices-config.result) in
    rw (p.1, p.2) (subst (λ (f : Flags). AnswersDropped (config_of f) c.args.bytes.now choices (Err c.in_err-module.field-0.0)) same
    (unread (Vec Listed) d c.args.bytes.now (Done d c.args.bytes.now choices) ⊥ (RefusesEdit (RefusesChosen choices) d c.args.bytes.now) _ c.in_err-module.ensures))

pub returns-in_err-keep_chosen : goal.returns-in_err-keep_chosen
returns-in_err-keep_chosen c =
    let choices = choices_seen c.args.choices.now in
    let p = err_from_is_err_and c.from_residual-in_err-keep_chosen.result c.from_residual-in_err-keep_chosen.ensures.1 in
    let same = c.of_choices-config.ensures.value in
    let d = config_of (flags c.of_choices-config.result) in
    rw (p.1, p.2) (subst (λ (f : Flags). AnswersDropped (config_of f) c.args.bytes.now choices (Err c.in_err-keep_chosen.field-0.0)) same
    (unchosen _ choices d c.args.bytes.now c.in_ok-module.module c.in_ok-module.ensures.found (Vec Listed) (Done d c.args.bytes.now choices) ⊥ _ c.in_err-keep_chosen.ensures))

pub returns-in_err-used : goal.returns-in_err-used
returns-in_err-used c =
    let choices = choices_seen c.args.choices.now in
    let p = err_from_is_err_and c.from_residual-in_err-used.result c.from_residual-in_err-used.ensures.1 in
    let same = c.of_choices-config.ensures.value in
    let d = config_of (flags c.of_choices-config.result) in
    rw (p.1, p.2) (subst (λ (f : Flags). AnswersDropped (config_of f) c.args.bytes.now choices (Err c.in_err-used.field-0.0)) same
    (unsearched (Vec Listed) d c.args.bytes.now (Done d c.args.bytes.now choices) ⊥ (RefusesEdit (RefusesChosen choices) d c.args.bytes.now) _ c.keep_chosen.new.module (chosen_ready _ choices d c.args.bytes.now c.in_ok-module.module c.in_ok-module.ensures.found c.keep_chosen.new.module c.in_ok-keep_chosen.ensures
    c.in_ok-module.ensures.kept.raws c.in_ok-module.ensures.kept.are (flags c.of_choices-config.result) c.in_ok-module.ensures.configured refl (ap (λ (f : Flags). f.preserve_code_transform) same)) _ c.in_err-used.ensures))

pub returns-in_err-parts : goal.returns-in_err-parts
returns-in_err-parts c =
    let choices = choices_seen c.args.choices.now in
    let p = err_from_is_err_and c.from_residual-in_err-parts.result c.from_residual-in_err-parts.ensures.1 in
    let same = c.of_choices-config.ensures.value in
    let d = config_of (flags c.of_choices-config.result) in
    rw (p.1, p.2) (subst (λ (f : Flags). AnswersDropped (config_of f) c.args.bytes.now choices (Err c.in_err-parts.field-0.0)) same
    (unparted (Vec Listed) d c.args.bytes.now (Done d c.args.bytes.now choices) ⊥ (RefusesEdit (RefusesChosen choices) d c.args.bytes.now) _ c.in_err-parts.ensures))

pub returns : goal.returns
returns c =
    let choices = choices_seen c.args.choices.now in
    let same = c.of_choices-config.ensures.value in
    let d = config_of (flags c.of_choices-config.result) in
    subst (λ (f : Flags). AnswersDropped (config_of f) c.args.bytes.now choices (Ok c.in_ok-all_dropped.field-0)) same
    (dropped_told _ choices d c.args.bytes.now c.in_ok-module.module c.in_ok-module.ensures.found c.keep_chosen.new.module c.in_ok-keep_chosen.ensures c.in_ok-used.used c.in_ok-used.ensures.kept c.deref.result.now
    (subst (λ (ps : List RawPart). HasParts c.args.bytes.now (map part_record ps)) (sym c.deref.ensures.value) c.in_ok-parts.ensures) c.in_ok-all_dropped.field-0 c.in_ok-all_dropped.ensures)
