use Rattle.std.specs.Prelude.{◌≡◌}
use Rattle.std.specs.List.{list_all}
use Rattle.walrus_base.specs.Arena.{entries}
use Rattle.walrus_base.specs.ModuleTypes.{type_slots}
use Rattle.walrus_base.specs.TypesLeft.{types_left}
use Rattle.walrus_module.specs.Tested.{entry_is_spelled}
use Rattle.walrus_module.proofs.spelled.are_types_spelled.Given as goal

-- bytes spell each so far: whether they spell all shows in those that are still to come
abbrev pub invariant-loop-ty : goal.invariant-loop-ty
invariant-loop-ty l =
    goal.iterator-loop-ty.can_next l.ty-iterator
    × goal.iterator-loop-ty.is_finite l.ty-iterator
    × (list_all entry_is_spelled (entries (type_slots l.types)) ≡ list_all entry_is_spelled (types_left l.ty-iterator))
