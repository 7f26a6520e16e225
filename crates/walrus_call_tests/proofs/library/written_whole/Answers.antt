use Rattle.walrus.proofs.HeadlineLemmas.{nothing_dead}
use Rattle.walrus_call_tests.proofs.library.written_whole.Goals as goal

pub emit_whole-requires : goal.emit_whole-requires
emit_whole-requires c = nothing_dead _ _ _ c.in_ok-module.ensures.found
