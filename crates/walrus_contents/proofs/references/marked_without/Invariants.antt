use Rattle.std.proofs.Common.{◌≡◌, ◌++◌, map}
use Rattle.std.specs.Prelude.{filter, not}
use Rattle.walrus_base.specs.Id.{place}
use Rattle.walrus_base.specs.Marks.{is_marked, marks_left, places_marked}
use Rattle.walrus_contents.proofs.references.marked_without.Given as goal

-- what was found and what is left to find are the whole
abbrev pub invariant-ids : goal.invariant-ids
invariant-ids l =
    (goal.iterator-ids).can_next l.id-iterator
    × (goal.iterator-ids).is_finite l.id-iterator
    × (map place l.found.items ++ filter (λ f. not (is_marked l.without f)) (marks_left l.id-iterator) ≡ filter (λ f. not (is_marked l.without f)) (places_marked l.marks))
