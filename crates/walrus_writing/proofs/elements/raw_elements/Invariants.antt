use Rattle.walrus_base.specs.Arena.{items}
use Rattle.walrus_code.specs.Indices.{index_of}
use Rattle.walrus_contents.specs.View.{tables_of}
use Rattle.walrus_items.specs.Elements.{elements, elements_left}
use Rattle.walrus_writing.proofs.ElementRecords.{ElementsWritten}
use Rattle.walrus_writing.proofs.elements.raw_elements.Given as goal

-- the records so far, and the segments that are still to come
abbrev pub invariant-loop-segment : goal.invariant-loop-segment
invariant-loop-segment l =
    goal.iterator-loop-segment.can_next l.segment-iterator
    × goal.iterator-loop-segment.is_finite l.segment-iterator
    × ElementsWritten (index_of l.indices) (tables_of l.all_tables) (items (elements l.all)) l.raw.items (elements_left l.segment-iterator)
