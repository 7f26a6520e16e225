use Rattle.std.specs.Prelude.{◌≡◌}
use Rattle.std.specs.List.{list_all}
use Rattle.walrus_base.specs.Arena.{items}
use Rattle.walrus_items.specs.Data.{data_segments, data_segments_left}
use Rattle.walrus_items.specs.Globals.{globals}
use Rattle.walrus_items.specs.Memories.{memories}
use Rattle.walrus_module.specs.Tested.{data_is_placed}
use Rattle.walrus_module.proofs.offsets.are_data_placed.Given as goal

-- the offset of each so far is an address: whether all are shows in those that are still to come
abbrev pub invariant-loop-segment : goal.invariant-loop-segment
invariant-loop-segment l =
    goal.iterator-loop-segment.can_next l.segment-iterator
    × goal.iterator-loop-segment.is_finite l.segment-iterator
    × (list_all (λ d. data_is_placed (globals l.parts.globals.now) (memories l.parts.memories.now) d.kind) (items (data_segments l.parts.data_.now)) ≡ list_all (λ d. data_is_placed (globals l.parts.globals.now) (memories l.parts.memories.now) d.kind) (data_segments_left l.segment-iterator))
