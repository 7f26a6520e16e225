use Rattle.std.proofs.Common.{◌≡◌, ◌++◌, map}
use Rattle.walrus_base.specs.IdSet.{ids_in, ids_left}
use Rattle.walrus_base.specs.Operators.{Elements}
use Rattle.walrus_contents.specs.Named.{items_in}
use Rattle.walrus_contents.proofs.names.push_element_ids.Given as goal

-- what was put so far and the segments to come are the whole
abbrev pub invariant-ids : goal.invariant-ids
invariant-ids l =
    (goal.iterator-ids).can_next l.id-iterator
    × (goal.iterator-ids).is_finite l.id-iterator
    × (items_in l.to ++ map (λ e. (Elements, e)) (ids_left l.id-iterator) ≡ items_in l.fn.to ++ map (λ e. (Elements, e)) (ids_in l.kept))
