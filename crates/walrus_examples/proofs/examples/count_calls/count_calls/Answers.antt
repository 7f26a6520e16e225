use Rattle.std.proofs.Common.{refl, ◌∙◌}
use Rattle.std.proofs.lemmas.Result.{err_from_is_err_and}
use Rattle.walrus.specs.Modules.Flags.{config_of, defaults}
use Rattle.walrus_examples.proofs.CountEnds.{count_whole, counts_held, same_customs, same_settings}
use Rattle.walrus.proofs.EditEnds.{edit_finishes, memory_refused}
use Rattle.walrus_examples.specs.CountAnswers.{CountsHeld}
use Rattle.walrus.specs.Edits.{ForMemory}
use Rattle.walrus_examples.proofs.examples.count_calls.count_calls.Goals as goal

pub returns-in_err-count_all : goal.returns-in_err-count_all
returns-in_err-count_all c =
    let p = err_from_is_err_and c.from_residual-in_err-count_all.result c.from_residual-in_err-count_all.ensures.1 in
    rw (p.1, p.2) (memory_refused (CountsHeld c.args.from.now c.args.name.now) ForMemory (config_of defaults) c.args.bytes.now _ c.in_err-count_all.ensures)

pub returns : goal.returns
returns c =
    let from = c.args.from.now in
    let name = c.args.name.now in
    let read = c.in_ok-module.module in
    let done = c.in_ok-count_all.ensures in
    let whole = count_whole _ (config_of defaults) c.args.bytes.now from name read _ c.in_ok-module.ensures.found done in
    edit_finishes _ (CountsHeld from name) ForMemory (config_of defaults) c.args.bytes.now read c.in_ok-module.ensures.found
    _ (counts_held from name read _ done) (same_customs from name read _ done) whole c.in_ok-module.ensures.kept.raws c.in_ok-module.ensures.kept.are
    defaults (same_settings from name read _ done ∙ c.in_ok-module.ensures.configured) refl refl c.finished.result c.finished.ensures
