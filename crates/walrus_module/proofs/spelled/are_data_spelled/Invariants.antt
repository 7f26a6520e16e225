use Rattle.std.specs.Prelude.{◌≡◌}
use Rattle.std.specs.List.{list_all}
use Rattle.walrus_base.specs.Arena.{items}
use Rattle.walrus_items.specs.Data.{data_segments, data_segments_left}
use Rattle.walrus_module.specs.Tested.{data_is_spelled}
use Rattle.walrus_module.proofs.spelled.are_data_spelled.Given as goal

-- bytes spell each so far: whether they spell all shows in those that are still to come
abbrev pub invariant-loop-segment : goal.invariant-loop-segment
invariant-loop-segment l =
    goal.iterator-loop-segment.can_next l.segment-iterator
    × goal.iterator-loop-segment.is_finite l.segment-iterator
    × (list_all data_is_spelled (items (data_segments l.all)) ≡ list_all data_is_spelled (data_segments_left l.segment-iterator))
