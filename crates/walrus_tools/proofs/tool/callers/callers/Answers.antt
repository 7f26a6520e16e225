use Rattle.std.proofs.Common.{◌≡◌, ℕ, List, ap, ap₂, refl, ◌∙◌, subst, sym}
use Rattle.std.proofs.lemmas.Result.{err_from_is_err_and}
use Rattle.std.specs.Prelude.{Err, Ok, map}
use Rattle.walrus.specs.Code.Code.{item_of}
use Rattle.walrus.specs.Model.Abstract.{Abstract}
use Rattle.walrus.specs.Contents.Named.{items_in}
use Rattle.walrus.specs.Items.Transform.{range_of, transform_of}
use Rattle.walrus.specs.Modules.Flags.{Flags, config_of, flags}
use Rattle.walrus_sections.specs.Choice.{choices_seen}
use Rattle.walrus_tools.specs.ReasonAnswers.{AnswersCallers}
use Rattle.walrus.specs.Modules.View.{held_view}
use Rattle.walrus_tools.specs.LinkSteps.{AreRising}
use Rattle.walrus_tools.specs.Links.{link_of}
use Rattle.walrus_tools.proofs.WhyEnds.{bytes_lack, callers_lack, callers_left, callers_refused, callers_told, choice_lacks, rising, same_module, search_stops, text_lacks, way_lacks, way_measured}
use Rattle.walrus_tools.proofs.tool.callers.callers.Goals as goal

pub returns-in_err-module : goal.returns-in_err-module
returns-in_err-module c =
    let choices = choices_seen c.args.choices.now in
    let p = err_from_is_err_and c.from_residual.result c.from_residual.ensures.1 in
    let same = c.of_choices-config.ensures.value in
    let f = flags c.of_choices-config.result in
    rw (p.1, p.2) (subst (λ (f : Flags). AnswersCallers (config_of f) c.args.bytes.now choices c.args.text.now (Err c.in_err-module.field-0.0)) same
    (callers_refused (config_of f) c.args.bytes.now choices c.args.text.now _ (bytes_lack (config_of f) c.args.bytes.now choices c.args.text.now _ c.in_err-module.ensures)))

pub returns-in_err-keep_chosen : goal.returns-in_err-keep_chosen
returns-in_err-keep_chosen c =
    let choices = choices_seen c.args.choices.now in
    let p = err_from_is_err_and c.from_residual-in_err-keep_chosen.result c.from_residual-in_err-keep_chosen.ensures.1 in
    let same = c.of_choices-config.ensures.value in
    let f = flags c.of_choices-config.result in
    let read = c.in_ok-module in
    rw (p.1, p.2) (subst (λ (f : Flags). AnswersCallers (config_of f) c.args.bytes.now choices c.args.text.now (Err c.in_err-keep_chosen.field-0.0)) same
    (callers_refused (config_of f) c.args.bytes.now choices c.args.text.now _ (choice_lacks _ choices c.args.text.now f (ap (λ (f : Flags). f.preserve_code_transform) same) c.args.bytes.now read.module read.ensures.found _ c.in_err-keep_chosen.ensures)))

pub returns-in_err-item : goal.returns-in_err-item
returns-in_err-item c =
    let choices = choices_seen c.args.choices.now in
    let p = err_from_is_err_and c.from_residual-in_err-item.result c.from_residual-in_err-item.ensures.1 in
    let same = c.of_choices-config.ensures.value in
    let f = flags c.of_choices-config.result in
    let read = c.in_ok-module in
    let edited = c.keep_chosen.new.module in
    let kept = c.in_ok-keep_chosen.ensures in
    rw (p.1, p.2) (subst (λ (f : Flags). AnswersCallers (config_of f) c.args.bytes.now choices c.args.text.now (Err c.in_err-item.field-0.0)) same
    (callers_refused (config_of f) c.args.bytes.now choices c.args.text.now _ (text_lacks _ choices c.args.text.now f (ap (λ (f : Flags). f.preserve_code_transform) same) c.args.bytes.now read.module read.ensures.found edited kept _ c.in_err-item.ensures)))

pub returns-in_err-run : goal.returns-in_err-run
returns-in_err-run c =
    let choices = choices_seen c.args.choices.now in
    let p = err_from_is_err_and c.from_residual-in_err-run.result c.from_residual-in_err-run.ensures.1 in
    let same = c.of_choices-config.ensures.value in
    let f = flags c.of_choices-config.result in
    let read = c.in_ok-module in
    let edited = c.keep_chosen.new.module in
    let kept = c.in_ok-keep_chosen.ensures in
    rw (p.1, p.2) (subst (λ (f : Flags). AnswersCallers (config_of f) c.args.bytes.now choices c.args.text.now (Err c.in_err-run.field-0.0)) same
    (callers_refused (config_of f) c.args.bytes.now choices c.args.text.now _ (search_stops _ choices c.args.text.now f (ap (λ (f : Flags). f.preserve_code_transform) same) c.args.bytes.now read.module read.ensures.found edited kept read.ensures.kept.raws read.ensures.kept.are read.ensures.configured _ c.in_err-run.ensures.refused)))

pub returns-in_err-items : goal.returns-in_err-items
returns-in_err-items c =
    let choices = choices_seen c.args.choices.now in
    let p = err_from_is_err_and c.from_residual-in_err-items.result c.from_residual-in_err-items.ensures.1 in
    let same = c.of_choices-config.ensures.value in
    let f = flags c.of_choices-config.result in
    let read = c.in_ok-module in
    let edited = c.keep_chosen.new.module in
    let kept = c.in_ok-keep_chosen.ensures in
    let stays = c.run.new.module in
    let ran = c.in_ok-run.ensures in
    rw (p.1, p.2) (subst (λ (f : Flags). AnswersCallers (config_of f) c.args.bytes.now choices c.args.text.now (Err c.in_err-items.field-0.0)) same
    (callers_refused (config_of f) c.args.bytes.now choices c.args.text.now _ (callers_lack _ choices c.args.text.now f (ap (λ (f : Flags). f.preserve_code_transform) same) c.args.bytes.now read.module read.ensures.found edited kept read.ensures.kept.raws read.ensures.kept.are stays ran _ c.in_err-items.ensures)))

pub returns-in_err-output : goal.returns-in_err-output
returns-in_err-output c =
    let choices = choices_seen c.args.choices.now in
    let p = err_from_is_err_and c.from_residual-in_err-output.result c.from_residual-in_err-output.ensures.1 in
    let same = c.of_choices-config.ensures.value in
    let f = flags c.of_choices-config.result in
    let read = c.in_ok-module in
    let edited = c.keep_chosen.new.module in
    let kept = c.in_ok-keep_chosen.ensures in
    let stays = c.run.new.module in
    let ran = c.in_ok-run.ensures in
    let left = c.emit_wasm_with_transform.new.self in
    rw (p.1, p.2) (subst (λ (f : Flags). AnswersCallers (config_of f) c.args.bytes.now choices c.args.text.now (Err c.in_err-output.field-0.0)) same
    (callers_refused (config_of f) c.args.bytes.now choices c.args.text.now _ (way_lacks _ choices c.args.text.now f (ap (λ (f : Flags). f.preserve_code_transform) same) c.args.bytes.now read.module read.ensures.found edited kept read.ensures.kept.raws read.ensures.kept.are stays ran read.ensures.configured stays (same_module stays) left _ c.in_err-output.ensures)))

pub links_of-requires : goal.links_of-requires
links_of-requires c =
    let choices = choices_seen c.args.choices.now in
    let same = c.of_choices-config.ensures.value in
    let f = flags c.of_choices-config.result in
    let read = c.in_ok-module in
    let edited = c.keep_chosen.new.module in
    let kept = c.in_ok-keep_chosen.ensures in
    let stays = c.run.new.module in
    let ran = c.in_ok-run.ensures in
    let left = c.emit_wasm_with_transform.new.self in
    let m = way_measured _ choices c.args.text.now f (ap (λ (f : Flags). f.preserve_code_transform) same) c.args.bytes.now read.module read.ensures.found edited kept read.ensures.kept.raws read.ensures.kept.are stays ran read.ensures.configured stays (same_module stays) left c.in_ok-output.output c.in_ok-output.transform c.in_ok-output.ensures in
    subst (λ (rs : List (ℕ × (ℕ × ℕ))). AreRising rs) (sym (ap (map range_of) c.as_slice-bodies.ensures.value))
    (rising _ _ _ _ c.in_ok-output.output _ m.tells)

pub returns : goal.returns
returns c =
    let choices = choices_seen c.args.choices.now in
    let same = c.of_choices-config.ensures.value in
    let f = flags c.of_choices-config.result in
    let read = c.in_ok-module in
    let edited = c.keep_chosen.new.module in
    let kept = c.in_ok-keep_chosen.ensures in
    let stays = c.run.new.module in
    let ran = c.in_ok-run.ensures in
    let left = c.emit_wasm_with_transform.new.self in
    let x = item_of c.in_ok-item.item in
    let transform = transform_of c.in_ok-output.transform in
    let m = way_measured _ choices c.args.text.now f (ap (λ (f : Flags). f.preserve_code_transform) same) c.args.bytes.now read.module read.ensures.found edited kept read.ensures.kept.raws read.ensures.kept.are stays ran read.ensures.configured stays (same_module stays) left c.in_ok-output.output c.in_ok-output.transform c.in_ok-output.ensures in
    let bodies : map range_of c.as_slice-bodies.result.now ≡ transform.function_ranges = ap (map range_of) c.as_slice-bodies.ensures.value in
    let found : map item_of c.as_slice-found.result.now ≡ items_in c.in_ok-items.items = ap (map item_of) c.as_slice-found.ensures.value in
    subst (λ (f : Flags). AnswersCallers (config_of f) c.args.bytes.now choices c.args.text.now (Ok c.in_ok-links_of.field-0)) same
    (callers_told _ choices c.args.text.now f (ap (λ (f : Flags). f.preserve_code_transform) same) c.args.bytes.now read.module read.ensures.found edited kept _ transform m refl refl x c.in_ok-item.ensures
    (items_in c.in_ok-items.items) (callers_left _ choices c.args.text.now f (ap (λ (f : Flags). f.preserve_code_transform) same) c.args.bytes.now read.module read.ensures.found edited kept read.ensures.kept.raws read.ensures.kept.are stays ran read.ensures.configured stays (same_module stays) left c.in_ok-output.output c.in_ok-output.transform c.in_ok-output.ensures x (items_in c.in_ok-items.items) c.in_ok-items.ensures)
    _ (c.in_ok-links_of.ensures ∙ ap₂ (λ (v : Abstract) (rs : List (ℕ × (ℕ × ℕ))). map (link_of v rs) (map item_of c.as_slice-found.result.now)) c.parts-left.ensures bodies
    ∙ ap (map (link_of (held_view left) transform.function_ranges)) found))
