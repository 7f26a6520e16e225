use Rattle.walrus_base.specs.Arena.{items}
use Rattle.walrus_code.specs.Indices.{index_of}
use Rattle.walrus_items.specs.Data.{data_segments, data_segments_left}
use Rattle.walrus_writing.proofs.DataRecords.{SegmentsWritten}
use Rattle.walrus_writing.proofs.data.raw_data.Given as goal

-- the records so far, and the segments that are still to come
abbrev pub invariant-loop-segment : goal.invariant-loop-segment
invariant-loop-segment l =
    goal.iterator-loop-segment.can_next l.segment-iterator
    × goal.iterator-loop-segment.is_finite l.segment-iterator
    × SegmentsWritten (index_of l.indices) (items (data_segments l.all)) l.raw.items (data_segments_left l.segment-iterator)
