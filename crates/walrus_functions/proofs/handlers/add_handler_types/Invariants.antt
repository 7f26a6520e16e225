use Rattle.std.proofs.Common.{map, drop, length}
use Rattle.walrus_base.specs.Arena.{item_at}
use Rattle.walrus_base.specs.Id.{place}
use Rattle.walrus_base.specs.ModuleTypes.{type_slots}
use Rattle.walrus_code.specs.Code.{ops_of}
use Rattle.walrus_functions.specs.Known.{AreOf}
use Rattle.walrus_functions.specs.Signatures.{opened, slots_of, tag_places}
use Rattle.walrus_functions.proofs.HandlerLemmas.{SoFar}
use Rattle.walrus_functions.proofs.handlers.add_handler_types.Given as goal

-- the types that the operators so far need are found or added, and what is held of types is so
abbrev pub invariant-loop-operator : goal.invariant-loop-operator
invariant-loop-operator l = SoFar (item_at (type_slots l.initial.types)) (tag_places l.tag_types) (slots_of l.initial.types) (slots_of l.types) (opened l.blocks) (ops_of (drop l.operator-index l.operators)) (ops_of l.operators) (map place l.ids.items)
    × AreOf (length (type_slots l.initial.types)) (item_at (type_slots l.initial.types)) (type_slots l.types) l.handlers
