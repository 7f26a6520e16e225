use Rattle.std.specs.Prelude.{◌≡◌}
use Rattle.std.specs.List.{list_any}
use Rattle.walrus_base.specs.Arena.{items}
use Rattle.walrus_items.specs.Data.{data_segments, data_segments_left}
use Rattle.walrus_plan.specs.Count.{is_passive_value}
use Rattle.walrus_plan.proofs.count.has_passive.Given as goal

-- none so far is passive: whether one is shows in those that are still to come
abbrev pub invariant-loop-segment : goal.invariant-loop-segment
invariant-loop-segment l =
    goal.iterator-loop-segment.can_next l.segment-iterator
    × goal.iterator-loop-segment.is_finite l.segment-iterator
    × (list_any is_passive_value (items (data_segments l.segments)) ≡ list_any is_passive_value (data_segments_left l.segment-iterator))
