use Rattle.std.proofs.Common.{◌≡◌, ◌++◌, IsTrue}
use Rattle.std.specs.Vec.Iter.{into_iter_items}
use Rattle.walrus_base.specs.OwnIds.{under_own_ids}
use Rattle.walrus_base.specs.TypeSlots.{defs, names, no_names}
use Rattle.walrus_base.proofs.Members.{new_members}
use Rattle.walrus_base.proofs.slots.placed.Given as goal

abbrev pub invariant-loop-member : goal.invariant-loop-member
invariant-loop-member l =
    (goal.iterator-loop-member).can_next l.member-iterator
    × (goal.iterator-loop-member).is_finite l.member-iterator
    × (defs l.added.items ++ new_members l.first l.end (into_iter_items l.member-iterator) ≡ new_members l.first l.end l.fn.members.items)
    × (names l.added.items ++ no_names (into_iter_items l.member-iterator) ≡ no_names l.fn.members.items)
    × IsTrue (under_own_ids l.first l.added.items)
