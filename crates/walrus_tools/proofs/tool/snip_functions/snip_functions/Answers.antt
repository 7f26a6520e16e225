use Rattle.std.proofs.Common.{ap, refl, ◌∙◌, subst}
use Rattle.std.proofs.lemmas.Result.{err_from_is_err_and}
use Rattle.std.specs.Prelude.{Err}
use Rattle.walrus.specs.Modules.Flags.{Flags, config_of, flags}
use Rattle.walrus.specs.Modules.Settings.{settings}
use Rattle.walrus_tools.specs.FunctionMeaning.{texts}
use Rattle.walrus_tools.specs.TrapEdit.{AnswersMeant, RefusesMeant, SnipsMeant}
use Rattle.walrus.proofs.EditEnds.{edit_finishes, edit_refused, parsed_whole, ready}
use Rattle.walrus_tools.proofs.TrapWhole.{snips_meant}
use Rattle.walrus_tools.proofs.tool.snip_functions.snip_functions.Goals as goal

pub returns-in_err-trap_meant : goal.returns-in_err-trap_meant
returns-in_err-trap_meant c =
    let all = texts c.args.functions.now in
    let f = flags c.of_choices-config.result in
    let read = c.in_ok-module.module in
    let same = c.of_choices-config.ensures.value in
    let p = err_from_is_err_and c.from_residual-in_err-trap_meant.result c.from_residual-in_err-trap_meant.ensures.1 in
    rw (p.1, p.2) (subst (λ (g : Flags). AnswersMeant (config_of g) c.args.bytes.now all (Err c.in_err-trap_meant.field-0.0)) same
    (edit_refused _ (SnipsMeant all) (RefusesMeant all) (config_of f) c.args.bytes.now read c.in_ok-module.ensures.found (λ k h. h) (λ h. h) _
    (c.in_err-trap_meant.ensures (config_of f) (parsed_whole _ (SnipsMeant all) (RefusesMeant all) (config_of f) c.args.bytes.now read c.in_ok-module.ensures.found))))

pub finished_ready-requires : goal.finished_ready-requires
finished_ready-requires c =
    let all = texts c.args.functions.now in
    let f = flags c.of_choices-config.result in
    let read = c.in_ok-module.module in
    let same = c.of_choices-config.ensures.value in
    let whole = parsed_whole _ (SnipsMeant all) (RefusesMeant all) (config_of f) c.args.bytes.now read c.in_ok-module.ensures.found in
    let done = c.in_ok-trap_meant.ensures (config_of f) whole in
    ready _ (SnipsMeant all) (RefusesMeant all) (config_of f) c.args.bytes.now read c.in_ok-module.ensures.found
    _ (snips_meant all read _ done.0) (ap (λ m. m.customs) (done.0).others) done.1 c.in_ok-module.ensures.kept.raws c.in_ok-module.ensures.kept.are
    f (ap settings (done.0).others ∙ c.in_ok-module.ensures.configured) refl (ap (λ (g : Flags). g.preserve_code_transform) same)

pub returns : goal.returns
returns c =
    let all = texts c.args.functions.now in
    let f = flags c.of_choices-config.result in
    let read = c.in_ok-module.module in
    let same = c.of_choices-config.ensures.value in
    let whole = parsed_whole _ (SnipsMeant all) (RefusesMeant all) (config_of f) c.args.bytes.now read c.in_ok-module.ensures.found in
    let done = c.in_ok-trap_meant.ensures (config_of f) whole in
    subst (λ (g : Flags). AnswersMeant (config_of g) c.args.bytes.now all c.finished_ready.result) same
    (edit_finishes _ (SnipsMeant all) (RefusesMeant all) (config_of f) c.args.bytes.now read c.in_ok-module.ensures.found
    _ (snips_meant all read _ done.0) (ap (λ m. m.customs) (done.0).others) done.1 c.in_ok-module.ensures.kept.raws c.in_ok-module.ensures.kept.are
    f (ap settings (done.0).others ∙ c.in_ok-module.ensures.configured) refl (ap (λ (g : Flags). g.preserve_code_transform) same) c.finished_ready.result c.finished_ready.ensures)
