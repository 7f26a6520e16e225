use Rattle.std.proofs.Common.{ℕ}
use Rattle.walrus_base.specs.Id.{place}
use Rattle.walrus_base.specs.Operators.{Memories}
use Rattle.walrus_items.specs.Memories.{MemoryValue, memory_entries_left, memory_value}
use Rattle.walrus_contents.specs.View.{lent, parts_view}
use Rattle.walrus.proofs.Spare.{is_first, marks_first, marks_none, no_first}
use Rattle.walrus.proofs.passes.used.mark_first_memory.Goals as goal

pub mark-requires : goal.mark-requires
mark-requires c =
    let e : ℕ × MemoryValue = (place c.in-Some.id, memory_value c.in-Some._memory.now) in
    c.requires (Memories, e.0) (is_first (lent c.args.parts) (memory_entries_left c.iter_entries.result) (memory_entries_left c.next.new.self) c.iter_entries.ensures e c.in-Some.ensures.steps).live

pub returns-in-Some : goal.returns-in-Some
returns-in-Some c =
    let e : ℕ × MemoryValue = (place c.in-Some.id, memory_value c.in-Some._memory.now) in
    marks_first (parts_view c.args.parts) c.args.marks.now c.mark.new.self e.0
    (is_first (lent c.args.parts) (memory_entries_left c.iter_entries.result) (memory_entries_left c.next.new.self) c.iter_entries.ensures e c.in-Some.ensures.steps) c.mark.ensures.marks

pub returns-in_default : goal.returns-in_default
returns-in_default c =
    marks_none (parts_view c.args.parts) c.args.marks.now (no_first (lent c.args.parts) (memory_entries_left c.iter_entries.result) (memory_entries_left c.next.new.self) c.iter_entries.ensures c.in_default.ensures.steps.0)
