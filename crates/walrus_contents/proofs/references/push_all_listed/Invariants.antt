use Rattle.std.proofs.Common.{◌≡◌, ◌++◌, map}
use Rattle.walrus_base.specs.Arena.{items}
use Rattle.walrus_base.specs.Id.{place}
use Rattle.walrus_items.specs.Elements.{elements, elements_left}
use Rattle.walrus_contents.specs.References.{listed_refs}
use Rattle.walrus_contents.proofs.references.push_all_listed.Given as goal

-- what was put so far and what is left to put are the whole
abbrev pub invariant-loop-segment : goal.invariant-loop-segment
invariant-loop-segment l =
    (goal.iterator-loop-segment).can_next l.segment-iterator
    × (goal.iterator-loop-segment).is_finite l.segment-iterator
    × (map place l.to.items ++ listed_refs (elements_left l.segment-iterator) ≡ map place l.fn.to.items ++ listed_refs (items (elements l.all)))
