use Rattle.std.proofs.Common.{◌≡◌, ◌++◌, map, not}
use Rattle.std.specs.Prelude.{filter}
use Rattle.walrus_base.specs.Operators.{DataSegments}
use Rattle.walrus_items.specs.Data.{data_segment_entries_left, is_passive_data}
use Rattle.walrus_contents.specs.Named.{active_names, items_in}
use Rattle.walrus_contents.proofs.names.push_active_data.Given as goal

-- what was put so far and the active segments to come are the whole
abbrev pub invariant-loop-id : goal.invariant-loop-id
invariant-loop-id l =
    (goal.iterator-loop-id).can_next l.id-iterator
    × (goal.iterator-loop-id).is_finite l.id-iterator
    × (items_in l.to ++ map (λ e. (DataSegments, e.0)) (filter (λ e. not (is_passive_data e.1.kind)) (data_segment_entries_left l.id-iterator)) ≡ items_in l.fn.to ++ active_names l.segments)
