-- What the plan of a module's parts lists.
use Rattle.std.specs.Prelude.{◌≡◌, ◌++◌, map}
use Rattle.walrus_base.specs.Arena.{entries, items}
use Rattle.walrus_base.specs.Id.{place}
use Rattle.walrus_base.specs.ModuleTypes.{type_slots}
use Rattle.walrus_base.specs.Operators.{Functions, Tables, Memories, Tags, Globals}
use Rattle.walrus_items.specs.Functions.{functions}
use Rattle.walrus_items.specs.Data.{data_segments}
use Rattle.walrus_items.specs.Elements.{elements}
use Rattle.walrus_items.specs.Globals.{globals}
use Rattle.walrus_items.specs.Imports.{imports}
use Rattle.walrus_items.specs.Memories.{memories}
use Rattle.walrus_items.specs.Tables.{tables}
use Rattle.walrus_items.specs.Tags.{tags}
use Rattle.walrus_contents.specs.View.{parts_view}
use Rattle.walrus_contents.specs.declared.parts.Parts.{Parts}
use Rattle.walrus_model.specs.Dead.{HasDead}
use Rattle.walrus_model.specs.Plan.{IsPlan}
use Rattle.walrus_model.specs.WellMade.{ImportsMatch}
use Rattle.walrus_plan.specs.Brought.{own_places, places_brought}
use Rattle.walrus_plan.specs.Places.{places}
use Rattle.walrus_plan.specs.Sizes.{IsOrder}
use Rattle.walrus_plan.specs.declared.plan.Plan.{Plan}

-- in each space the plan lists what imports bring, by rising import, and then the module's own: functions by size, all others by rising place
pub record ListsItems (p : Parts) (plan : Plan) : Type 0 where
  pub types : map place plan.types.items ≡ map (λ e. e.0) (entries (type_slots p.types.now))
  pub brought : map place plan.brought_functions.items ≡ places_brought Functions (items (imports p.imports.now))
  pub own : IsOrder (functions p.funcs.now) (map place plan.own_functions.items)
  pub tables : map place plan.tables.items ≡ places_brought Tables (items (imports p.imports.now)) ++ own_places (λ x. x.imported_by) (entries (tables p.tables.now))
  pub memories : map place plan.memories.items ≡ places_brought Memories (items (imports p.imports.now)) ++ own_places (λ x. x.imported_by) (entries (memories p.memories.now))
  pub tags : map place plan.tags.items ≡ places_brought Tags (items (imports p.imports.now)) ++ own_places (λ x. x.imported_by) (entries (tags p.tags.now))
  pub globals : map place plan.globals.items ≡ places_brought Globals (items (imports p.imports.now)) ++ own_places (λ x. x.imported_by) (entries (globals p.globals.now))
  pub elements : map place plan.elements.items ≡ map (λ e. e.0) (entries (elements p.elements.now))
  pub data_segments : map place plan.data_.items ≡ map (λ e. e.0) (entries (data_segments p.data_.now))

-- it lists the items, and where nothing dead is named, and imports and items name each other, that is a plan of the module
pub record PlansItems (p : Parts) (plan : Plan) : Type 0 where
  pub lists : ListsItems p plan
  pub is_plan : (HasDead (parts_view p) → ⊥) → ImportsMatch (parts_view p) → IsPlan (parts_view p) (places plan)
