use Rattle.std.specs.Prelude.{◌≡◌}
use Rattle.std.specs.List.{list_all}
use Rattle.walrus_base.specs.Arena.{items}
use Rattle.walrus_items.specs.Elements.{elements, elements_left}
use Rattle.walrus_items.specs.Globals.{globals}
use Rattle.walrus_items.specs.Tables.{tables}
use Rattle.walrus_module.specs.Tested.{element_is_placed}
use Rattle.walrus_module.proofs.offsets.are_elements_placed.Given as goal

-- the offset of each so far is an address: whether all are shows in those that are still to come
abbrev pub invariant-loop-segment : goal.invariant-loop-segment
invariant-loop-segment l =
    goal.iterator-loop-segment.can_next l.segment-iterator
    × goal.iterator-loop-segment.is_finite l.segment-iterator
    × (list_all (λ e. element_is_placed (globals l.parts.globals.now) (tables l.parts.tables.now) e.kind) (items (elements l.parts.elements.now)) ≡ list_all (λ e. element_is_placed (globals l.parts.globals.now) (tables l.parts.tables.now) e.kind) (elements_left l.segment-iterator))
