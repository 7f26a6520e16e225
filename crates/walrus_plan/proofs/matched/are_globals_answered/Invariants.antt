use Rattle.walrus_base.specs.Operators.{Globals}
use Rattle.walrus_items.specs.Globals.{globals, global_entries_left}
use Rattle.walrus_contents.specs.View.{parts_view}
use Rattle.walrus_model.proofs.Walked.{Walked}
use Rattle.walrus_plan.proofs.Matching.{AnsweredAt}
use Rattle.walrus_plan.proofs.matched.are_globals_answered.Given as goal

-- the globals that aren't left are answered
abbrev pub invariant-loop-id : goal.invariant-loop-id
invariant-loop-id l =
    goal.iterator-loop-id.can_next l.id-iterator
    × goal.iterator-loop-id.is_finite l.id-iterator
    × Walked (AnsweredAt (parts_view l.parts) Globals) (globals l.parts.globals.now) (global_entries_left l.id-iterator)
