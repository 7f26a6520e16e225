use Rattle.std.proofs.Common.{◌≡◌, ◌++◌}
use Rattle.std.specs.Vec.Iter.{into_iter_items}
use Rattle.walrus.specs.Base.Arena.{items}
use Rattle.walrus_edits.proofs.change.sections_left.Given as goal

-- the sections so far, and those that are still to come
abbrev pub invariant-slots : goal.invariant-slots
invariant-slots l =
    goal.iterator-slots.can_next l.slot-iterator
    × goal.iterator-slots.is_finite l.slot-iterator
    × (l.left.items ++ items (into_iter_items l.slot-iterator) ≡ items l.fn.all.items)
