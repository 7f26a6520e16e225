use Rattle.std.proofs.Common.{ap, refl, ◌∙◌, subst, inr}
use Rattle.std.proofs.lemmas.Result.{err_from_is_err_and}
use Rattle.std.specs.Prelude.{Err, Ok, map}
use Rattle.walrus.specs.Items.Functions.{functions}
use Rattle.walrus.specs.Items.Transform.{range_of}
use Rattle.walrus.specs.Modules.Customs.{sections}
use Rattle.walrus.specs.Modules.Flags.{Flags, config_of, flags}
use Rattle.walrus.specs.Modules.Settings.{settings}
use Rattle.walrus.proofs.Modules.RawStays.{all_raw}
use Rattle.walrus_sections.specs.Choice.{choices_seen}
use Rattle.walrus_tools.specs.ChosenModule.{KeepsChosen, RefusesChosen}
use Rattle.walrus_tools.specs.FunctionList.{AnswersListed, names_in}
use Rattle.walrus_tools.proofs.ChosenEnds.{bytes_refused, chosen_held, chosen_whole}
use Rattle.walrus.proofs.EditEnds.{edit_refused, parsed_whole}
use Rattle.walrus_tools.proofs.MeasuredEnds.{emission_lacks, measured, search_lacks}
use Rattle.walrus_tools.proofs.SizeEnds.{list_told, way_refused}
use Rattle.walrus_tools.proofs.tool.list.list.Goals as goal

pub returns-in_err-module : goal.returns-in_err-module
returns-in_err-module c =
    let choices = choices_seen c.args.choices.now in
    let p = err_from_is_err_and c.from_residual.result c.from_residual.ensures.1 in
    let same = c.of_choices-config.ensures.value in
    let f = flags c.of_choices-config.result in
    rw (p.1, p.2) (subst (λ (f : Flags). AnswersListed (config_of f) c.args.bytes.now choices (Err c.in_err-module.field-0.0)) same
    (way_refused (config_of f) c.args.bytes.now choices _ (bytes_refused (config_of f) c.args.bytes.now choices _ c.in_err-module.ensures)))

pub returns-in_err-keep_chosen : goal.returns-in_err-keep_chosen
returns-in_err-keep_chosen c =
    let choices = choices_seen c.args.choices.now in
    let read = c.in_ok-module in
    let p = err_from_is_err_and c.from_residual-in_err-keep_chosen.result c.from_residual-in_err-keep_chosen.ensures.1 in
    let same = c.of_choices-config.ensures.value in
    let f = flags c.of_choices-config.result in
    rw (p.1, p.2) (subst (λ (f : Flags). AnswersListed (config_of f) c.args.bytes.now choices (Err c.in_err-keep_chosen.field-0.0)) same
    (way_refused (config_of f) c.args.bytes.now choices _ (edit_refused _ (KeepsChosen choices) (RefusesChosen choices) (config_of f) c.args.bytes.now read.module read.ensures.found (λ k h. h) (λ h. h) _ c.in_err-keep_chosen.ensures)))

pub returns-in_err-run : goal.returns-in_err-run
returns-in_err-run c =
    let choices = choices_seen c.args.choices.now in
    let p = err_from_is_err_and c.from_residual-in_err-run.result c.from_residual-in_err-run.ensures.1 in
    let same = c.of_choices-config.ensures.value in
    let f = flags c.of_choices-config.result in
    let read = c.in_ok-module in
    let edited = c.keep_chosen.new.module in
    let kept = c.in_ok-keep_chosen.ensures in
    let whole = parsed_whole _ (KeepsChosen choices) (RefusesChosen choices) (config_of f) c.args.bytes.now read.module read.ensures.found in
    rw (p.1, p.2) (subst (λ (f : Flags). AnswersListed (config_of f) c.args.bytes.now choices (Err c.in_err-run.field-0.0)) same
    (way_refused (config_of f) c.args.bytes.now choices _ (search_lacks _ (KeepsChosen choices) (RefusesChosen choices) f (ap (λ (f : Flags). f.preserve_code_transform) same) c.args.bytes.now read.module read.ensures.found
    edited (chosen_held choices read.module edited kept) (ap (λ m. m.customs) kept.others) (chosen_whole choices read.module edited kept (config_of f) whole)
    read.ensures.kept.raws read.ensures.kept.are (ap settings kept.others ∙ read.ensures.configured) _ c.in_err-run.ensures.refused)))

pub returns-in_err-output : goal.returns-in_err-output
returns-in_err-output c =
    let choices = choices_seen c.args.choices.now in
    let p = err_from_is_err_and c.from_residual-in_err-output.result c.from_residual-in_err-output.ensures.1 in
    let same = c.of_choices-config.ensures.value in
    let f = flags c.of_choices-config.result in
    let read = c.in_ok-module in
    let raw = read.ensures.kept in
    let edited = c.keep_chosen.new.module in
    let kept = c.in_ok-keep_chosen.ensures in
    let whole = parsed_whole _ (KeepsChosen choices) (RefusesChosen choices) (config_of f) c.args.bytes.now read.module read.ensures.found in
    let stays = c.run.new.module in
    let left = c.emit_wasm_with_transform.new.self in
    let ran = c.in_ok-run.ensures in
    let own = ap (λ m. m.customs) kept.others in
    let stay = c.in_err-output.ensures.emits.raw (all_raw stays.customs raw.raws (ap sections (ran.others.customs ∙ own) ∙ raw.are)) in
    rw (p.1, p.2) (subst (λ (f : Flags). AnswersListed (config_of f) c.args.bytes.now choices (Err c.in_err-output.field-0.0)) same
    (way_refused (config_of f) c.args.bytes.now choices _ (emission_lacks _ (KeepsChosen choices) (RefusesChosen choices) f (ap (λ (f : Flags). f.preserve_code_transform) same) c.args.bytes.now read.module read.ensures.found
    edited (chosen_held choices read.module edited kept) own (chosen_whole choices read.module edited kept (config_of f) whole)
    raw.raws raw.are (ap settings kept.others ∙ read.ensures.configured) stays ran.collected ran.others.customs left stay (settings stays) ran.others.settings c.in_err-output.field-0.0 c.in_err-output.ensures.emits.left
    c.in_err-output.ensures.emits.well_made)))

pub returns : goal.returns
returns c =
    let choices = choices_seen c.args.choices.now in
    let same = c.of_choices-config.ensures.value in
    let f = flags c.of_choices-config.result in
    let read = c.in_ok-module in
    let raw = read.ensures.kept in
    let edited = c.keep_chosen.new.module in
    let kept = c.in_ok-keep_chosen.ensures in
    let whole = parsed_whole _ (KeepsChosen choices) (RefusesChosen choices) (config_of f) c.args.bytes.now read.module read.ensures.found in
    let stays = c.run.new.module in
    let left = c.emit_wasm_with_transform.new.self in
    let ran = c.in_ok-run.ensures in
    let wrote = c.in_ok-output.ensures in
    let own = ap (λ m. m.customs) kept.others in
    let configured = ap settings kept.others ∙ read.ensures.configured in
    let stay = wrote.emits.raw (all_raw stays.customs raw.raws (ap sections (ran.others.customs ∙ own) ∙ raw.are)) in
    let m = measured _ (KeepsChosen choices) (RefusesChosen choices) f (ap (λ (f : Flags). f.preserve_code_transform) same) c.args.bytes.now read.module read.ensures.found
    edited (chosen_held choices read.module edited kept) own (chosen_whole choices read.module edited kept (config_of f) whole)
    raw.raws raw.are configured stays ran.collected ran.others.customs left stay wrote.emits.left (settings stays) (ran.others.settings ∙ configured) c.in_ok-output.output c.in_ok-output.transform
    wrote.emits.well_made (wrote.transform (inr refl)) in
    subst (λ (f : Flags). AnswersListed (config_of f) c.args.bytes.now choices (Ok c.in_ok-all_listed.field-0)) same
    (list_told (config_of f) c.args.bytes.now choices _ _ m (names_in (functions left.funcs)) refl _ (ap (map range_of) c.deref.ensures.value) c.in_ok-all_listed.field-0 c.in_ok-all_listed.ensures)
