use Rattle.std.proofs.Common.{◌≡◌}
use Rattle.std.specs.List.{list_all}
use Rattle.walrus_base.specs.Arena.{entries}
use Rattle.walrus_base.proofs.Entries.{AllThere}
use Rattle.walrus_base.specs.ModuleTypes.{type_slots}
use Rattle.walrus_base.specs.TypesLeft.{types_left}
use Rattle.walrus_groups.specs.Ordered.{is_ordered}
use Rattle.walrus_groups.proofs.order.are_in_order.Given as goal

-- the types that are left are there, and tell for all
abbrev pub invariant-loop-ty : goal.invariant-loop-ty
invariant-loop-ty l =
    goal.iterator-loop-ty.can_next l.ty-iterator
    × goal.iterator-loop-ty.is_finite l.ty-iterator
    × AllThere (type_slots l.types) (types_left l.ty-iterator)
    × (list_all is_ordered (entries (type_slots l.types)) ≡ list_all is_ordered (types_left l.ty-iterator))
