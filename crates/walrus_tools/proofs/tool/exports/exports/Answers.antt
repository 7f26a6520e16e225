use Rattle.std.proofs.Common.{List, ℕ, map, subst}
use Rattle.std.proofs.lemmas.Result.{err_from_is_err_and}
use Rattle.std.specs.Global.{Vec}
use Rattle.std.specs.Prelude.{Err, Ok}
use Rattle.walrus.specs.Model.Config.{Config}
use Rattle.walrus.specs.Modules.Flags.{Flags, config_of, flags}
use Rattle.walrus_sections.specs.Choice.{Choice, choices_seen}
use Rattle.walrus_tools.specs.ChosenModule.{RefusesChosen}
use Rattle.walrus_tools.specs.ExportList.{AnswersExports, AreExports, exported_seen}
use Rattle.walrus.specs.Edits.{RefusesEdit}
use Rattle.walrus_tools.specs.declared.tool.exports.Exported.{Exported}
use Rattle.walrus_tools.proofs.ChosenListed.{exports_told, unchosen, unread}
use Rattle.walrus_tools.proofs.tool.exports.exports.Goals as goal

-- what such a list is
abbrev Done : (c : Config) (bytes : List ℕ) (choices : List Choice) → Vec Exported → Type 0
Done c bytes choices list = AreExports c bytes choices (map exported_seen list.items)

pub returns-in_err-module : goal.returns-in_err-module
returns-in_err-module c =
    let choices = choices_seen c.args.choices.now in
    let p = err_from_is_err_and c.from_residual.result c.from_residual.ensures.1 in
    let same = c.of_choices-config.ensures.value in
    let d = config_of (flags c.of_choices-config.result) in
    rw (p.1, p.2) (subst (λ (f : Flags). AnswersExports (config_of f) c.args.bytes.now choices (Err c.in_err-module.field-0.0)) same
    (unread (Vec Exported) d c.args.bytes.now (Done d c.args.bytes.now choices) ⊥ (RefusesEdit (RefusesChosen choices) d c.args.bytes.now) _ c.in_err-module.ensures))

pub returns-in_err-keep_chosen : goal.returns-in_err-keep_chosen
returns-in_err-keep_chosen c =
    let choices = choices_seen c.args.choices.now in
    let p = err_from_is_err_and c.from_residual-in_err-keep_chosen.result c.from_residual-in_err-keep_chosen.ensures.1 in
    let same = c.of_choices-config.ensures.value in
    let d = config_of (flags c.of_choices-config.result) in
    rw (p.1, p.2) (subst (λ (f : Flags). AnswersExports (config_of f) c.args.bytes.now choices (Err c.in_err-keep_chosen.field-0.0)) same
    (unchosen _ choices d c.args.bytes.now c.in_ok-module.module c.in_ok-module.ensures.found (Vec Exported) (Done d c.args.bytes.now choices) ⊥ _ c.in_err-keep_chosen.ensures))

pub returns : goal.returns
returns c =
    let choices = choices_seen c.args.choices.now in
    let same = c.of_choices-config.ensures.value in
    let d = config_of (flags c.of_choices-config.result) in
    subst (λ (f : Flags). AnswersExports (config_of f) c.args.bytes.now choices (Ok c.in_ok-all_exported.field-0)) same
    (exports_told _ choices d c.args.bytes.now c.in_ok-module.module c.in_ok-module.ensures.found c.keep_chosen.new.module c.in_ok-keep_chosen.ensures c.in_ok-all_exported.field-0 c.in_ok-all_exported.ensures)
