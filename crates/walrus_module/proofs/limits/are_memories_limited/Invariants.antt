use Rattle.std.specs.Prelude.{◌≡◌}
use Rattle.std.specs.List.{list_all}
use Rattle.walrus_base.specs.Arena.{items}
use Rattle.walrus_items.specs.Memories.{memories, memories_left}
use Rattle.walrus_module.specs.Tested.{memory_is_limited}
use Rattle.walrus_module.proofs.limits.are_memories_limited.Given as goal

-- the limits of each so far are allowed: whether all are shows in those that are still to come
abbrev pub invariant-loop-memory : goal.invariant-loop-memory
invariant-loop-memory l =
    goal.iterator-loop-memory.can_next l.memory-iterator
    × goal.iterator-loop-memory.is_finite l.memory-iterator
    × (list_all memory_is_limited (items (memories l.all)) ≡ list_all memory_is_limited (memories_left l.memory-iterator))
