use Rattle.std.proofs.Common.{ap, refl, ◌∙◌, inr}
use Rattle.std.specs.Prelude.{option_map}
use Rattle.std.proofs.lemmas.Result.{err_from_is_err_and}
use Rattle.walrus.proofs.Modules.RawStays.{all_raw}
use Rattle.walrus.specs.Contents.Named.{items_in}
use Rattle.walrus.specs.Base.Id.{place}
use Rattle.walrus.specs.Modules.Customs.{sections}
use Rattle.walrus.specs.Modules.Flags.{config_of, defaults}
use Rattle.walrus.specs.Modules.Settings.{settings}
use Rattle.walrus.proofs.EditEnds.{parsed_whole}
use Rattle.walrus_tools.proofs.MeasuredEnds.{emission_lacks, measured, search_lacks}
use Rattle.walrus_examples.proofs.ReasonEnds.{function_lacks, reason_told}
use Rattle.walrus_tools.specs.Measures.{IsSame}
use Rattle.walrus_tools.specs.Reasons.{LacksFunction}
use Rattle.walrus_examples.proofs.examples.why_with_sizes.why_with_sizes.Goals as goal

pub returns-in_err-function_at : goal.returns-in_err-function_at
returns-in_err-function_at c =
    let p = err_from_is_err_and c.from_residual-in_err-function_at.result c.from_residual-in_err-function_at.ensures.1 in
    rw (p.1, p.2) (function_lacks _ (config_of defaults) c.args.bytes.now c.in_ok-module.module c.in_ok-module.ensures.found c.args.function _ c.in_err-function_at.ensures)

pub returns-in_err-links : goal.returns-in_err-links
returns-in_err-links c =
    let p = err_from_is_err_and c.from_residual-in_err-links.result c.from_residual-in_err-links.ensures.1 in
    rw (p.1, p.2) (search_lacks _ IsSame (LacksFunction c.args.function) defaults refl c.args.bytes.now c.in_ok-module.module c.in_ok-module.ensures.found c.in_ok-module.module refl refl
    (parsed_whole _ IsSame (LacksFunction c.args.function) (config_of defaults) c.args.bytes.now c.in_ok-module.module c.in_ok-module.ensures.found) c.in_ok-module.ensures.kept.raws c.in_ok-module.ensures.kept.are
    c.in_ok-module.ensures.configured _ c.in_err-links.ensures)

pub returns-in_err-run : goal.returns-in_err-run
returns-in_err-run c =
    let p = err_from_is_err_and c.from_residual-in_err-run.result c.from_residual-in_err-run.ensures.1 in
    rw (p.1, p.2) (search_lacks _ IsSame (LacksFunction c.args.function) defaults refl c.args.bytes.now c.in_ok-module.module c.in_ok-module.ensures.found c.in_ok-module.module refl refl
    (parsed_whole _ IsSame (LacksFunction c.args.function) (config_of defaults) c.args.bytes.now c.in_ok-module.module c.in_ok-module.ensures.found) c.in_ok-module.ensures.kept.raws c.in_ok-module.ensures.kept.are
    c.in_ok-module.ensures.configured _ c.in_err-run.ensures.refused)

pub returns-in_err-output : goal.returns-in_err-output
returns-in_err-output c =
    let p = err_from_is_err_and c.from_residual-in_err-output.result c.from_residual-in_err-output.ensures.1 in
    let read = c.in_ok-module.module in
    let raw = c.in_ok-module.ensures.kept in
    let kept = c.run.new.module in
    let left = c.emit_wasm_with_transform.new.self in
    let ran = c.in_ok-run.ensures in
    let same = c.in_err-output.ensures.emits.raw (all_raw kept.customs raw.raws (ap sections ran.others.customs ∙ raw.are)) in
    rw (p.1, p.2) (emission_lacks _ IsSame (LacksFunction c.args.function) defaults refl c.args.bytes.now read c.in_ok-module.ensures.found read refl refl
    (parsed_whole _ IsSame (LacksFunction c.args.function) (config_of defaults) c.args.bytes.now read c.in_ok-module.ensures.found) raw.raws raw.are c.in_ok-module.ensures.configured kept ran.collected ran.others.customs left same
    (settings kept) ran.others.settings c.in_err-output.field-0.0 c.in_err-output.ensures.emits.left c.in_err-output.ensures.emits.well_made)

pub returns : goal.returns
returns c =
    let read = c.in_ok-module.module in
    let raw = c.in_ok-module.ensures.kept in
    let kept = c.run.new.module in
    let left = c.emit_wasm_with_transform.new.self in
    let ran = c.in_ok-run.ensures in
    let wrote = c.in_ok-output.ensures in
    let same = wrote.emits.raw (all_raw kept.customs raw.raws (ap sections ran.others.customs ∙ raw.are)) in
    let m = measured _ IsSame (LacksFunction c.args.function) defaults refl c.args.bytes.now read c.in_ok-module.ensures.found read refl refl
    (parsed_whole _ IsSame (LacksFunction c.args.function) (config_of defaults) c.args.bytes.now read c.in_ok-module.ensures.found) raw.raws raw.are c.in_ok-module.ensures.configured kept ran.collected ran.others.customs left same
    wrote.emits.left (settings kept) (ran.others.settings ∙ c.in_ok-module.ensures.configured) c.in_ok-output.output c.in_ok-output.transform wrote.emits.well_made (wrote.transform (inr refl)) in
    reason_told _ (config_of defaults) c.args.bytes.now read c.in_ok-module.ensures.found c.args.function (place c.in_ok-function_at.field-0) c.in_ok-function_at.ensures.0 c.in_ok-function_at.ensures.1
    (option_map items_in c.in_ok-links.links) c.in_ok-links.ensures _ _ m refl refl c.in_ok-chain_report.field-0 c.in_ok-chain_report.ensures
