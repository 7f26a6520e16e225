use Rattle.wasm_entries.specs.Record.{sub}
use Rattle.walrus_base.specs.Id.{place}
use Rattle.walrus_base.specs.ModuleTypes.{type_slots}
use Rattle.walrus_base.specs.TypesLeft.{ids_left}
use Rattle.walrus_base.specs.TypeSlots.{group_at}
use Rattle.walrus_code.specs.Indices.{index_of}
use Rattle.walrus_groups.specs.Written.{StandsFor}
use Rattle.walrus_groups.proofs.WrittenTurns.{AllLive, Completes}
use Rattle.walrus_groups.proofs.write.index_group.Given as goal

-- the members that are left are there, and complete what is made
abbrev pub invariant-loop-member : goal.invariant-loop-member
invariant-loop-member l =
    goal.iterator-loop-member.can_next l.member-iterator
    × goal.iterator-loop-member.is_finite l.member-iterator
    × AllLive (type_slots l.types) (ids_left l.member-iterator)
    × Completes (StandsFor (index_of l.indices) (type_slots l.types)) (group_at (type_slots l.types) (place l.fn.id)) (ids_left l.member-iterator) sub l.members.items
