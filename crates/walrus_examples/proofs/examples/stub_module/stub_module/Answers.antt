use Rattle.std.proofs.Common.{ap, refl, ◌∙◌}
use Rattle.std.proofs.lemmas.Result.{err_from_is_err_and}
use Rattle.walrus.specs.Modules.Flags.{config_of, defaults}
use Rattle.walrus.specs.Modules.Settings.{settings}
use Rattle.walrus.proofs.EditEnds.{edit_finishes, memory_refused, parsed_whole}
use Rattle.walrus_tools.proofs.StubCall.{stubs_held}
use Rattle.walrus.specs.Edits.{ForMemory}
use Rattle.walrus_tools.specs.StubAnswers.{StubsHeld}
use Rattle.walrus_examples.proofs.examples.stub_module.stub_module.Goals as goal

pub returns-in_err-trap_all : goal.returns-in_err-trap_all
returns-in_err-trap_all c =
    let from = c.args.from.now in
    let p = err_from_is_err_and c.from_residual-in_err-trap_all.result c.from_residual-in_err-trap_all.ensures.1 in
    rw (p.1, p.2) (memory_refused (StubsHeld from) ForMemory (config_of defaults) c.args.bytes.now _
    (c.in_err-trap_all.ensures (config_of defaults) (parsed_whole _ (StubsHeld from) ForMemory (config_of defaults) c.args.bytes.now c.in_ok-module.module c.in_ok-module.ensures.found)))

pub returns : goal.returns
returns c =
    let from = c.args.from.now in
    let read = c.in_ok-module.module in
    let whole = parsed_whole _ (StubsHeld from) ForMemory (config_of defaults) c.args.bytes.now read c.in_ok-module.ensures.found in
    let done = c.in_ok-trap_all.ensures (config_of defaults) whole in
    edit_finishes _ (StubsHeld from) ForMemory (config_of defaults) c.args.bytes.now read c.in_ok-module.ensures.found
    _ (stubs_held from read _ done.0) (ap (λ m. m.customs) (done.0).others) done.1 c.in_ok-module.ensures.kept.raws c.in_ok-module.ensures.kept.are
    defaults (ap settings (done.0).others ∙ c.in_ok-module.ensures.configured) refl refl c.finished.result c.finished.ensures
