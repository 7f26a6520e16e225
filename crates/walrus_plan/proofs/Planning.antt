-- The orders of all spaces are a plan of the module.
use Rattle.std.proofs.Common.{ℕ, List, ◌++◌, map, sym, subst}
use Rattle.walrus_base.specs.Id.{place}
use Rattle.walrus_base.specs.ModuleTypes.{type_slots}
use Rattle.walrus_base.specs.Operators.{Space, Types, Functions, Tables, Memories, Tags, Globals, Elements, DataSegments}
use Rattle.walrus_contents.specs.View.{parts_view}
use Rattle.walrus_contents.specs.declared.parts.Parts.{Parts}
use Rattle.walrus_model.specs.Abstract.{Abstract}
use Rattle.walrus_model.specs.Dead.{HasDead}
use Rattle.walrus_model.specs.Plan.{IsPlan}
use Rattle.walrus_model.specs.WellMade.{ImportsMatch}
use Rattle.walrus_model.proofs.Arenas.{entries_rise}
use Rattle.walrus_model.proofs.Orders.{ordered_entries}
use Rattle.walrus_plan.specs.Places.{places}
use Rattle.walrus_plan.specs.Planned.{ListsItems}
use Rattle.walrus_plan.specs.declared.plan.Plan.{Plan}
use Rattle.walrus_plan.proofs.PlannedByImport.{IsInOrder, data_planned, elements_planned, functions_planned, globals_planned, memories_planned, tables_planned, tags_planned}

module _ (p : Parts) where
  abbrev V : Abstract
  V = parts_view p

  module _ (plan : Plan) (lists : ListsItems p plan) (there : HasDead V → ⊥) (paired : ImportsMatch V) where
    in_order : (s : Space) → IsInOrder p paired s (places plan s)
    in_order Types = subst (IsInOrder p paired Types) (sym lists.types) (ordered_entries (type_slots p.types.now), entries_rise (type_slots p.types.now))
    in_order Functions = subst (λ (first : List ℕ). IsInOrder p paired Functions (first ++ map place plan.own_functions.items)) (sym lists.brought) (functions_planned p paired there (map place plan.own_functions.items) lists.own)
    in_order Tables = subst (IsInOrder p paired Tables) (sym lists.tables) (tables_planned p paired)
    in_order Memories = subst (IsInOrder p paired Memories) (sym lists.memories) (memories_planned p paired)
    in_order Tags = subst (IsInOrder p paired Tags) (sym lists.tags) (tags_planned p paired)
    in_order Globals = subst (IsInOrder p paired Globals) (sym lists.globals) (globals_planned p paired)
    in_order Elements = subst (IsInOrder p paired Elements) (sym lists.elements) (elements_planned p paired)
    in_order DataSegments = subst (IsInOrder p paired DataSegments) (sym lists.data_segments) (data_planned p paired)

    pub plan_is : IsPlan V (places plan)
    plan_is = record { holds = λ s. (in_order s).0; sorted = λ s. (in_order s).1 }
