use Rattle.walrus_base.specs.Marks.{marks_left}
use Rattle.walrus.proofs.Marking.{Made}
use Rattle.walrus.proofs.passes.used.ids_of.Given as goal

-- what is in and what is left is what is marked
abbrev pub invariant-ids : goal.invariant-ids
invariant-ids g l =
    (goal.iterator-ids g).can_next l.id-iterator
    × (goal.iterator-ids g).is_finite l.id-iterator
    × Made l.marks l.ids (marks_left l.id-iterator)
