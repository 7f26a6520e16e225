use Rattle.walrus_base.specs.Operators.{Memories}
use Rattle.walrus_items.specs.Memories.{memories, memory_entries_left}
use Rattle.walrus_contents.specs.View.{parts_view}
use Rattle.walrus_model.proofs.Walked.{Walked}
use Rattle.walrus_plan.proofs.Matching.{AnsweredAt}
use Rattle.walrus_plan.proofs.matched.are_memories_answered.Given as goal

-- the memories that aren't left are answered
abbrev pub invariant-loop-id : goal.invariant-loop-id
invariant-loop-id l =
    goal.iterator-loop-id.can_next l.id-iterator
    × goal.iterator-loop-id.is_finite l.id-iterator
    × Walked (AnsweredAt (parts_view l.parts) Memories) (memories l.parts.memories.now) (memory_entries_left l.id-iterator)
