use Rattle.std.proofs.Common.{◌≡◌, ◌++◌, map, not}
use Rattle.std.specs.Prelude.{filter}
use Rattle.walrus_base.specs.Operators.{Elements}
use Rattle.walrus_items.specs.Elements.{element_entries_left}
use Rattle.walrus_contents.specs.Named.{are_passive, items_in, root_elements}
use Rattle.walrus_contents.proofs.names.push_root_elements.Given as goal

-- what was put so far and the segments to come that aren't passive are the whole
abbrev pub invariant-loop-id : goal.invariant-loop-id
invariant-loop-id l =
    (goal.iterator-loop-id).can_next l.id-iterator
    × (goal.iterator-loop-id).is_finite l.id-iterator
    × (items_in l.to ++ map (λ e. (Elements, e.0)) (filter (λ e. not (are_passive e.1.kind)) (element_entries_left l.id-iterator)) ≡ items_in l.fn.to ++ root_elements l.segments)
