use Rattle.walrus_items.specs.Globals.{globals, global_entries_left}
use Rattle.walrus_model.proofs.Walked.{Walked}
use Rattle.walrus_plan.proofs.ReadsBefore.{GlobalPasses}
use Rattle.walrus_plan.proofs.reads.do_globals_read_earlier.Given as goal

-- the globals that aren't left pass
abbrev pub invariant-loop-id : goal.invariant-loop-id
invariant-loop-id l =
    (goal.iterator-loop-id).can_next l.id-iterator
    × (goal.iterator-loop-id).is_finite l.id-iterator
    × Walked (GlobalPasses l.parts) (globals l.parts.globals.now) (global_entries_left l.id-iterator)
