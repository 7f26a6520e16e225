use Rattle.std.proofs.Common.{◌≡◌, ℕ, ◌<◌, ◌^◌, List, Option, ap, ap₂, refl, ◌∙◌, subst, sym}
use Rattle.std.proofs.lemmas.Result.{err_from_is_err_and}
use Rattle.std.specs.Prelude.{Err, Ok, map, option_map}
use Rattle.walrus.specs.Base.FunctionKey.{FunctionKey}
use Rattle.walrus.specs.Base.MarksValue.{Marks}
use Rattle.walrus.specs.Code.Code.{item_of}
use Rattle.walrus.specs.Model.Abstract.{Abstract}
use Rattle.walrus.specs.Contents.Named.{items_in}
use Rattle.walrus.specs.Items.Transform.{range_of, transform_of}
use Rattle.walrus.specs.Modules.Flags.{Flags, config_of, flags}
use Rattle.walrus.specs.Modules.View.{view}
use Rattle.walrus_sections.specs.Choice.{choices_seen}
use Rattle.walrus_tools.specs.ReasonAnswers.{AnswersWhy, TellsAlone}
use Rattle.walrus_tools.specs.AloneSteps.{alone_in}
use Rattle.walrus_tools.specs.Alone.{bytes_of}
use Rattle.walrus_tools.specs.LinkSteps.{AreRising}
use Rattle.walrus_tools.specs.Links.{link_of, links_in}
use Rattle.walrus_tools.specs.RootSteps.{FindsChainRoot}
use Rattle.walrus_tools.specs.declared.goers.Alone.{Alone}
use Rattle.walrus_tools.specs.declared.reasons.Reason.{Reason}
use Rattle.walrus_tools.proofs.WhyEnds.{alone_so, bytes_lack, choice_lacks, counted, goers_lack, goers_stay, rising, search_stops, text_lacks, way_lacks, way_measured, why_refused, why_told}
use Rattle.walrus_tools.proofs.tool.why.why.Goals as goal

pub returns-in_err-module : goal.returns-in_err-module
returns-in_err-module c =
    let choices = choices_seen c.args.choices.now in
    let p = err_from_is_err_and c.from_residual.result c.from_residual.ensures.1 in
    let same = c.of_choices-config.ensures.value in
    let f = flags c.of_choices-config.result in
    rw (p.1, p.2) (subst (λ (f : Flags). AnswersWhy (config_of f) c.args.bytes.now choices c.args.text.now (Err c.in_err-module.field-0.0)) same
    (why_refused (config_of f) c.args.bytes.now choices c.args.text.now _ (bytes_lack (config_of f) c.args.bytes.now choices c.args.text.now _ c.in_err-module.ensures)))

pub returns-in_err-keep_chosen : goal.returns-in_err-keep_chosen
returns-in_err-keep_chosen c =
    let choices = choices_seen c.args.choices.now in
    let p = err_from_is_err_and c.from_residual-in_err-keep_chosen.result c.from_residual-in_err-keep_chosen.ensures.1 in
    let same = c.of_choices-config.ensures.value in
    let f = flags c.of_choices-config.result in
    let read = c.in_ok-module in
    rw (p.1, p.2) (subst (λ (f : Flags). AnswersWhy (config_of f) c.args.bytes.now choices c.args.text.now (Err c.in_err-keep_chosen.field-0.0)) same
    (why_refused (config_of f) c.args.bytes.now choices c.args.text.now _ (choice_lacks _ choices c.args.text.now f (ap (λ (f : Flags). f.preserve_code_transform) same) c.args.bytes.now read.module read.ensures.found _ c.in_err-keep_chosen.ensures)))

pub returns-in_err-item : goal.returns-in_err-item
returns-in_err-item c =
    let choices = choices_seen c.args.choices.now in
    let p = err_from_is_err_and c.from_residual-in_err-item.result c.from_residual-in_err-item.ensures.1 in
    let same = c.of_choices-config.ensures.value in
    let f = flags c.of_choices-config.result in
    let read = c.in_ok-module in
    let edited = c.keep_chosen.new.module in
    let kept = c.in_ok-keep_chosen.ensures in
    rw (p.1, p.2) (subst (λ (f : Flags). AnswersWhy (config_of f) c.args.bytes.now choices c.args.text.now (Err c.in_err-item.field-0.0)) same
    (why_refused (config_of f) c.args.bytes.now choices c.args.text.now _ (text_lacks _ choices c.args.text.now f (ap (λ (f : Flags). f.preserve_code_transform) same) c.args.bytes.now read.module read.ensures.found edited kept _ c.in_err-item.ensures)))

pub returns-in_err-chain : goal.returns-in_err-chain
returns-in_err-chain c =
    let choices = choices_seen c.args.choices.now in
    let p = err_from_is_err_and c.from_residual-in_err-chain.result c.from_residual-in_err-chain.ensures.1 in
    let same = c.of_choices-config.ensures.value in
    let f = flags c.of_choices-config.result in
    let read = c.in_ok-module in
    let edited = c.keep_chosen.new.module in
    let kept = c.in_ok-keep_chosen.ensures in
    rw (p.1, p.2) (subst (λ (f : Flags). AnswersWhy (config_of f) c.args.bytes.now choices c.args.text.now (Err c.in_err-chain.field-0.0)) same
    (why_refused (config_of f) c.args.bytes.now choices c.args.text.now _ (search_stops _ choices c.args.text.now f (ap (λ (f : Flags). f.preserve_code_transform) same) c.args.bytes.now read.module read.ensures.found edited kept read.ensures.kept.raws read.ensures.kept.are read.ensures.configured _ c.in_err-chain.ensures)))

pub returns-in_err-run : goal.returns-in_err-run
returns-in_err-run c =
    let choices = choices_seen c.args.choices.now in
    let p = err_from_is_err_and c.from_residual-in_err-run.result c.from_residual-in_err-run.ensures.1 in
    let same = c.of_choices-config.ensures.value in
    let f = flags c.of_choices-config.result in
    let read = c.in_ok-module in
    let edited = c.keep_chosen.new.module in
    let kept = c.in_ok-keep_chosen.ensures in
    rw (p.1, p.2) (subst (λ (f : Flags). AnswersWhy (config_of f) c.args.bytes.now choices c.args.text.now (Err c.in_err-run.field-0.0)) same
    (why_refused (config_of f) c.args.bytes.now choices c.args.text.now _ (search_stops _ choices c.args.text.now f (ap (λ (f : Flags). f.preserve_code_transform) same) c.args.bytes.now read.module read.ensures.found edited kept read.ensures.kept.raws read.ensures.kept.are read.ensures.configured _ c.in_err-run.ensures.refused)))

pub returns-in_err-marks : goal.returns-in_err-marks
returns-in_err-marks c =
    let choices = choices_seen c.args.choices.now in
    let p = err_from_is_err_and c.from_residual-in_err-marks.result c.from_residual-in_err-marks.ensures.1 in
    let same = c.of_choices-config.ensures.value in
    let f = flags c.of_choices-config.result in
    let read = c.in_ok-module in
    let edited = c.keep_chosen.new.module in
    let kept = c.in_ok-keep_chosen.ensures in
    let stays = c.run.new.module in
    let ran = c.in_ok-run.ensures in
    rw (p.1, p.2) (subst (λ (f : Flags). AnswersWhy (config_of f) c.args.bytes.now choices c.args.text.now (Err c.in_err-marks.field-0.0)) same
    (why_refused (config_of f) c.args.bytes.now choices c.args.text.now _ (goers_lack _ choices c.args.text.now f (ap (λ (f : Flags). f.preserve_code_transform) same) c.args.bytes.now read.module read.ensures.found edited kept read.ensures.kept.raws read.ensures.kept.are stays ran (item_of c.in_ok-item.item) _ c.in_err-marks.ensures)))

pub returns-in_err-output : goal.returns-in_err-output
returns-in_err-output c =
    let choices = choices_seen c.args.choices.now in
    let p = err_from_is_err_and c.from_residual-in_err-output.result c.from_residual-in_err-output.ensures.1 in
    let same = c.of_choices-config.ensures.value in
    let f = flags c.of_choices-config.result in
    let read = c.in_ok-module in
    let edited = c.keep_chosen.new.module in
    let kept = c.in_ok-keep_chosen.ensures in
    let stays = c.run.new.module in
    let ran = c.in_ok-run.ensures in
    let back = c.goers_with.new.module in
    let again = goers_stay _ (item_of c.in_ok-item.item) stays back c.in_ok-marks.marks c.in_ok-marks.ensures in
    let left = c.emit_wasm_with_transform.new.self in
    rw (p.1, p.2) (subst (λ (f : Flags). AnswersWhy (config_of f) c.args.bytes.now choices c.args.text.now (Err c.in_err-output.field-0.0)) same
    (why_refused (config_of f) c.args.bytes.now choices c.args.text.now _ (way_lacks _ choices c.args.text.now f (ap (λ (f : Flags). f.preserve_code_transform) same) c.args.bytes.now read.module read.ensures.found edited kept read.ensures.kept.raws read.ensures.kept.are stays ran read.ensures.configured back again left _ c.in_err-output.ensures)))

pub links_of_chain-requires : goal.links_of_chain-requires
links_of_chain-requires c =
    let choices = choices_seen c.args.choices.now in
    let same = c.of_choices-config.ensures.value in
    let f = flags c.of_choices-config.result in
    let read = c.in_ok-module in
    let edited = c.keep_chosen.new.module in
    let kept = c.in_ok-keep_chosen.ensures in
    let stays = c.run.new.module in
    let ran = c.in_ok-run.ensures in
    let back = c.goers_with.new.module in
    let again = goers_stay _ (item_of c.in_ok-item.item) stays back c.in_ok-marks.marks c.in_ok-marks.ensures in
    let left = c.emit_wasm_with_transform.new.self in
    let m = way_measured _ choices c.args.text.now f (ap (λ (f : Flags). f.preserve_code_transform) same) c.args.bytes.now read.module read.ensures.found edited kept read.ensures.kept.raws read.ensures.kept.are stays ran read.ensures.configured back again left c.in_ok-output.output c.in_ok-output.transform c.in_ok-output.ensures in
    subst (λ (rs : List (ℕ × (ℕ × ℕ))). AreRising rs) (sym (ap (map range_of) c.as_slice-bodies.ensures.value))
    (rising _ _ _ _ c.in_ok-output.output _ m.tells)

pub alone_if-requires : goal.alone_if-requires
alone_if-requires c =
    let choices = choices_seen c.args.choices.now in
    let same = c.of_choices-config.ensures.value in
    let f = flags c.of_choices-config.result in
    let read = c.in_ok-module in
    let edited = c.keep_chosen.new.module in
    let kept = c.in_ok-keep_chosen.ensures in
    let stays = c.run.new.module in
    let ran = c.in_ok-run.ensures in
    let back = c.goers_with.new.module in
    let again = goers_stay _ (item_of c.in_ok-item.item) stays back c.in_ok-marks.marks c.in_ok-marks.ensures in
    let left = c.emit_wasm_with_transform.new.self in
    let m = way_measured _ choices c.args.text.now f (ap (λ (f : Flags). f.preserve_code_transform) same) c.args.bytes.now read.module read.ensures.found edited kept read.ensures.kept.raws read.ensures.kept.are stays ran read.ensures.configured back again left c.in_ok-output.output c.in_ok-output.transform c.in_ok-output.ensures in
    subst (λ (rs : List (ℕ × (ℕ × ℕ))). bytes_of rs < 2 ^ 64) (sym (ap (map range_of) c.as_slice-bodies.ensures.value))
    (counted _ _ _ _ c.in_ok-output.output _ m.tells)

pub returns : goal.returns
returns c =
    let choices = choices_seen c.args.choices.now in
    let same = c.of_choices-config.ensures.value in
    let f = flags c.of_choices-config.result in
    let read = c.in_ok-module in
    let edited = c.keep_chosen.new.module in
    let kept = c.in_ok-keep_chosen.ensures in
    let stays = c.run.new.module in
    let ran = c.in_ok-run.ensures in
    let back = c.goers_with.new.module in
    let again = goers_stay _ (item_of c.in_ok-item.item) stays back c.in_ok-marks.marks c.in_ok-marks.ensures in
    let left = c.emit_wasm_with_transform.new.self in
    let x = item_of c.in_ok-item.item in
    let transform = transform_of c.in_ok-output.transform in
    let m = way_measured _ choices c.args.text.now f (ap (λ (f : Flags). f.preserve_code_transform) same) c.args.bytes.now read.module read.ensures.found edited kept read.ensures.kept.raws read.ensures.kept.are stays ran read.ensures.configured back again left c.in_ok-output.output c.in_ok-output.transform c.in_ok-output.ensures in
    let bodies : map range_of c.as_slice-bodies.result.now ≡ transform.function_ranges = ap (map range_of) c.as_slice-bodies.ensures.value in
    let chain = option_map items_in c.in_ok-chain.chain in
    let answer : Reason = record { item = c.in_ok-item.item; links = c.in_ok-links.links; root = c.root_of_chain-root.result; alone = c.alone_if.result } in
    subst (λ (f : Flags). AnswersWhy (config_of f) c.args.bytes.now choices c.args.text.now (Ok answer)) same
    (why_told _ choices c.args.text.now f (ap (λ (f : Flags). f.preserve_code_transform) same) c.args.bytes.now read.module read.ensures.found edited kept _ transform m refl refl x c.in_ok-item.ensures chain c.in_ok-chain.ensures
    (links_in c.in_ok-links.links) (c.in_ok-links.ensures ∙ ap₂ (λ (v : Abstract) (rs : List (ℕ × (ℕ × ℕ))). option_map (map (link_of v rs)) chain) c.parts-left.ensures bodies)
    c.root_of_chain-root.result (subst (λ (v : Abstract). FindsChainRoot v chain c.root_of_chain-root.result) c.parts-read.ensures c.root_of_chain-root.ensures)
    c.alone_if.result (subst (λ (a : Option Alone). TellsAlone (view _ edited) transform x a)
    (sym (c.alone_if.ensures ∙ ap (λ (rs : List (ℕ × (ℕ × ℕ))). option_map (λ (m : Marks FunctionKey). alone_in m rs) c.in_ok-marks.marks) bodies))
    (alone_so _ edited stays ran back x transform c.in_ok-marks.marks c.in_ok-marks.ensures)))
