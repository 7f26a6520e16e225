use Rattle.std.proofs.Common.{map, take}
use Rattle.walrus_items.specs.Memories.{memories}
use Rattle.walrus_model.specs.Sections.{memory_of}
use Rattle.walrus_reading.specs.Held.{HoldsMemory, none_kept}
use Rattle.walrus_reading.specs.Placed.{AddsPlaced}
use Rattle.walrus_reading.proofs.memories.add_memories.Given as goal

abbrev pub invariant-loop-limits : goal.invariant-loop-limits
invariant-loop-limits l = AddsPlaced (HoldsMemory none_kept) (map memory_of (take l.limits-index l.raw)) (memories l.fn.all) (memories l.all)
