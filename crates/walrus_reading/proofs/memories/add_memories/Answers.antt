use Rattle.walrus_items.specs.Memories.{memories}
use Rattle.walrus_model.specs.Sections.{memory_of}
use Rattle.walrus_reading.specs.Held.{HoldsMemory, none_kept}
use Rattle.walrus_reading.proofs.Rows.{none_yet, one_more, all_done}
use Rattle.walrus_reading.proofs.memories.add_memories.Goals as goal

pub loop-limits-init : goal.loop-limits-init
loop-limits-init c = none_yet (HoldsMemory none_kept) memory_of c.args.raw.now (memories c.args.all.now) (memories c.reserve.new.self) c.reserve.ensures.same

pub loop-limits-preserved : goal.loop-limits-preserved
loop-limits-preserved c =
    one_more (HoldsMemory none_kept) memory_of c.args.raw.now c.loop-limits.limits-index _ (memories c.args.all.now) (memories c.loop-limits.all) (memories c.add_memory.new.all)
    c.loop-limits-test.true c.loop-limits.invariant c.in_ok-add_memory.ensures.added

pub returns-clause-added : goal.returns-clause-added
returns-clause-added c = all_done (HoldsMemory none_kept) memory_of c.args.raw.now c.loop-limits.limits-index (memories c.args.all.now) (memories c.loop-limits.all) c.loop-limits-test.false c.loop-limits.invariant
