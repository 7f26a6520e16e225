use Rattle.std.proofs.Common.{ap, refl, ◌∙◌, subst}
use Rattle.std.proofs.lemmas.Result.{err_from_is_err_and}
use Rattle.std.specs.Prelude.{Err}
use Rattle.walrus.specs.Modules.Flags.{Flags, config_of, flags}
use Rattle.walrus.specs.Modules.Settings.{settings}
use Rattle.walrus_tools.specs.FunctionMeaning.{texts}
use Rattle.walrus_tools.specs.TrapEdit.{RefusesMeant, SnipsMeant}
use Rattle.walrus_tools.specs.Weigh.{AnswersWeighed}
use Rattle.walrus.proofs.EditEnds.{edit_refused, parsed_whole, ready}
use Rattle.walrus_tools.proofs.TrapWhole.{snips_meant}
use Rattle.walrus_tools.proofs.WeighEnds.{edit_weighs, refused_weighed}
use Rattle.walrus_tools.proofs.tool.snip_counted.snip_counted.Goals as goal

pub returns-in_err-trap_meant : goal.returns-in_err-trap_meant
returns-in_err-trap_meant c =
    let all = texts c.args.functions.now in
    let f = flags c.of_choices-config.result in
    let read = c.in_ok-module in
    let same = c.of_choices-config.ensures.value in
    let p = err_from_is_err_and c.from_residual-in_err-trap_meant.result c.from_residual-in_err-trap_meant.ensures.1 in
    rw (p.1, p.2) (subst (λ (g : Flags). AnswersWeighed (SnipsMeant all) (RefusesMeant all) (config_of g) c.args.bytes.now (Err c.in_err-trap_meant.field-0.0)) same
    (refused_weighed (SnipsMeant all) (RefusesMeant all) (config_of f) c.args.bytes.now _
    (edit_refused _ (SnipsMeant all) (RefusesMeant all) (config_of f) c.args.bytes.now read.module read.ensures.found (λ k h. h) (λ h. h) _
    (c.in_err-trap_meant.ensures (config_of f) (parsed_whole _ (SnipsMeant all) (RefusesMeant all) (config_of f) c.args.bytes.now read.module read.ensures.found)))))

pub finished_weighed-requires : goal.finished_weighed-requires
finished_weighed-requires c =
    let all = texts c.args.functions.now in
    let read = c.in_ok-module in
    let f = flags c.of_choices-config.result in
    let whole = parsed_whole _ (SnipsMeant all) (RefusesMeant all) (config_of f) c.args.bytes.now read.module read.ensures.found in
    let done = c.in_ok-trap_meant.ensures (config_of f) whole in
    ready _ (SnipsMeant all) (RefusesMeant all) (config_of f) c.args.bytes.now read.module read.ensures.found
    _ (snips_meant all read.module _ done.0) (ap (λ m. m.customs) (done.0).others) (done.1) read.ensures.kept.raws read.ensures.kept.are
    f (ap settings (done.0).others ∙ read.ensures.configured) refl (ap (λ (g : Flags). g.preserve_code_transform) c.of_choices-config.ensures.value)

pub returns : goal.returns
returns c =
    let all = texts c.args.functions.now in
    let read = c.in_ok-module in
    let f = flags c.of_choices-config.result in
    let whole = parsed_whole _ (SnipsMeant all) (RefusesMeant all) (config_of f) c.args.bytes.now read.module read.ensures.found in
    let done = c.in_ok-trap_meant.ensures (config_of f) whole in
    subst (λ (g : Flags). AnswersWeighed (SnipsMeant all) (RefusesMeant all) (config_of g) c.args.bytes.now c.finished_weighed.result) c.of_choices-config.ensures.value
    (edit_weighs _ (SnipsMeant all) (RefusesMeant all) (config_of f) c.args.bytes.now read.module read.ensures.found c.kinds_of-before.result c.kinds_of-before.ensures
    _ (snips_meant all read.module _ done.0) (ap (λ m. m.customs) (done.0).others) (done.1) f (ap settings (done.0).others ∙ read.ensures.configured) refl c.finished_weighed.result c.finished_weighed.ensures)
