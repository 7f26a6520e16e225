use Rattle.std.proofs.Common.{ap, refl, ◌∙◌}
use Rattle.std.proofs.lemmas.Result.{err_from_is_err_and}
use Rattle.walrus.specs.Modules.Flags.{config_of, defaults}
use Rattle.walrus.specs.Modules.Settings.{settings}
use Rattle.walrus.proofs.EditEnds.{edit_finishes, edit_refused, parsed_whole}
use Rattle.walrus_examples.proofs.SnipCall.{snips_held}
use Rattle.walrus_examples.specs.SnipAnswers.{RefusesSnip, SnipsHeld}
use Rattle.walrus_examples.proofs.examples.snip_export.snip_export.Goals as goal

pub returns-in_err-trap_named : goal.returns-in_err-trap_named
returns-in_err-trap_named c =
    let name = c.args.name.now in
    let p = err_from_is_err_and c.from_residual-in_err-trap_named.result c.from_residual-in_err-trap_named.ensures.1 in
    rw (p.1, p.2) (edit_refused _ (SnipsHeld name) (RefusesSnip name) (config_of defaults) c.args.bytes.now c.in_ok-module.module c.in_ok-module.ensures.found (λ k h. h) (λ h. h) _
    (c.in_err-trap_named.ensures (config_of defaults) (parsed_whole _ (SnipsHeld name) (RefusesSnip name) (config_of defaults) c.args.bytes.now c.in_ok-module.module c.in_ok-module.ensures.found)))

pub returns : goal.returns
returns c =
    let name = c.args.name.now in
    let read = c.in_ok-module.module in
    let whole = parsed_whole _ (SnipsHeld name) (RefusesSnip name) (config_of defaults) c.args.bytes.now read c.in_ok-module.ensures.found in
    let done = c.in_ok-trap_named.ensures (config_of defaults) whole in
    edit_finishes _ (SnipsHeld name) (RefusesSnip name) (config_of defaults) c.args.bytes.now read c.in_ok-module.ensures.found
    _ (snips_held name read _ done.0) (ap (λ m. m.customs) (done.0).others) done.1 c.in_ok-module.ensures.kept.raws c.in_ok-module.ensures.kept.are
    defaults (ap settings (done.0).others ∙ c.in_ok-module.ensures.configured) refl refl c.finished.result c.finished.ensures
