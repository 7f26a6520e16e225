use Rattle.std.proofs.Common.{◌≡◌, ◌++◌, map, Some}
use Rattle.std.specs.Prelude.{All}
use Rattle.wasm_entries.specs.TypeSpelling.{LimitsStand}
use Rattle.walrus_base.specs.Arena.{items}
use Rattle.walrus_items.specs.Memories.{memories, memories_left}
use Rattle.walrus_contents.specs.View.{memory_of}
use Rattle.walrus_plan.specs.Brought.{own_of}
use Rattle.walrus_writing.specs.Parts.{memory_limits}
use Rattle.walrus_writing.proofs.memories.raw_memories.Given as goal

-- the limits so far, and those of the module's own that are still to come
abbrev pub invariant-loop-memory : goal.invariant-loop-memory
invariant-loop-memory l =
    goal.iterator-loop-memory.can_next l.memory-iterator
    × goal.iterator-loop-memory.is_finite l.memory-iterator
    × All LimitsStand l.raw.items
    × (map Some l.raw.items ++ map (λ m. Some (memory_limits (memory_of m))) (own_of (λ x. x.imported_by) (memories_left l.memory-iterator)) ≡ map (λ m. Some (memory_limits (memory_of m))) (own_of (λ x. x.imported_by) (items (memories l.all))))
