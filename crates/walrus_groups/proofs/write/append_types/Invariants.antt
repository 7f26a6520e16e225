use Rattle.walrus_base.specs.Arena.{entries}
use Rattle.walrus_base.proofs.Entries.{AllThere}
use Rattle.walrus_base.specs.ModuleTypes.{type_slots}
use Rattle.walrus_base.specs.TypesLeft.{types_left}
use Rattle.walrus_code.specs.Indices.{index_of}
use Rattle.walrus_groups.specs.Appended.{AppendsGroups}
use Rattle.walrus_groups.specs.Written.{GroupStandsFor, firsts}
use Rattle.walrus_groups.proofs.AppendedGroups.{Complete}
use Rattle.walrus_groups.proofs.write.append_types.Given as goal

-- the types that are left are there, and the groups that begin with them complete those that were appended
abbrev pub invariant-loop-ty : goal.invariant-loop-ty
invariant-loop-ty l =
    goal.iterator-loop-ty.can_next l.ty-iterator
    × goal.iterator-loop-ty.is_finite l.ty-iterator
    × AllThere (type_slots l.types) (types_left l.ty-iterator)
    × AppendsGroups (Complete (GroupStandsFor (index_of l.indices) (type_slots l.types)) (firsts (entries (type_slots l.types))) (firsts (types_left l.ty-iterator))) l.count l.fn.to.items l.to.items
