-- Where imports and items name each other, what imports bring, by rising import, and then what the module defines, is the order of the plan, space
-- by space.
use Rattle.std.proofs.Common.{ℕ, List, ◌++◌, map, subst}
use Rattle.std.specs.Prelude.{AllPairs, Option, option_map}
use Rattle.walrus_base.specs.Arena.{entries, item_at, items}
use Rattle.walrus_base.specs.Operators.{Space, Functions, Tables, Memories, Tags, Globals, Elements, DataSegments}
use Rattle.walrus_items.specs.Data.{data_segments}
use Rattle.walrus_items.specs.Elements.{elements}
use Rattle.walrus_items.specs.Globals.{GlobalValue, globals}
use Rattle.walrus_items.specs.Memories.{MemoryValue, memories}
use Rattle.walrus_items.specs.Tables.{TableValue, tables}
use Rattle.walrus_items.specs.Tags.{TagValue, tags}
use Rattle.walrus_items.specs.Functions.{functions}
use Rattle.walrus_items.specs.Imports.{imports}
use Rattle.walrus_contents.specs.View.{data_of, element_of, parts_view}
use Rattle.walrus_contents.specs.declared.parts.Parts.{Parts}
use Rattle.walrus_model.specs.Abstract.{Abstract}
use Rattle.walrus_model.specs.Dead.{HasDead}
use Rattle.walrus_model.specs.Order.{ByImport}
use Rattle.walrus_model.specs.Ordered.{Ordered}
use Rattle.walrus_model.specs.Spaces.{look}
use Rattle.walrus_model.specs.WellMade.{ImportsMatch}
use Rattle.walrus_model.proofs.Arenas.{entries_rise}
use Rattle.walrus_model.proofs.Orders.{ordered_entries}
use Rattle.walrus_base.proofs.Standing.{was_some}
use Rattle.walrus_plan.specs.Brought.{own_places, places_brought}
use Rattle.walrus_plan.specs.Sizes.{IsOrder}
use Rattle.walrus_plan.proofs.BroughtBy.{brought_numbers}
use Rattle.walrus_model.proofs.OrderByImport.{ListsOwn, OrdersSpace, whole_ordered, whole_pairs}
use Rattle.walrus_plan.proofs.OrdersSpaces.{functions_order, globals_listed, globals_order, imports_listed, memories_listed, memories_order, tables_listed, tables_order, tags_listed, tags_order}
use Rattle.walrus_plan.proofs.OwnFunctions.{functions_listed}
use Rattle.walrus_base.proofs.Lookups.{still_some as seen_some}

seen_ordered : {A B : Type 0} (f : A → B) (slots : List (Option A)) → Ordered (λ i. option_map f (item_at slots i)) (map (λ e. e.0) (entries slots))
seen_ordered f slots =
    let o = ordered_entries slots in
    record {
      differ = o.differ;
      chosen = λ i at. seen_some f (item_at slots i) (o.chosen i at);
      all = λ i live. o.all i (was_some f (item_at slots i) live);
    }

module _ (p : Parts) (paired : ImportsMatch (parts_view p)) where
  abbrev V : Abstract
  V = parts_view p

  -- these are all items of the space, in order
  abbrev pub IsInOrder : Space → List ℕ → Type 0
  IsInOrder s order = Ordered (look V s) order × AllPairs (ByImport V s) order

  abbrev by_import : List ℕ
  by_import = map (λ e. e.0) (entries (imports p.imports.now))

  behind_brought : (s : Space) (own : List ℕ) → OrdersSpace V s → ListsOwn V s own → IsInOrder s (places_brought s (items (imports p.imports.now)) ++ own)
  behind_brought s own orders owned = subst (λ (first : List ℕ). IsInOrder s (first ++ own)) (brought_numbers p s)
      (whole_ordered V paired s orders by_import own (imports_listed p) owned, whole_pairs V paired s orders by_import own (imports_listed p) owned)

  pub tables_planned : IsInOrder Tables (places_brought Tables (items (imports p.imports.now)) ++ own_places (λ (t : TableValue). t.imported_by) (entries (tables p.tables.now)))
  tables_planned = behind_brought Tables _ (tables_order V) (tables_listed p)

  pub memories_planned : IsInOrder Memories (places_brought Memories (items (imports p.imports.now)) ++ own_places (λ (m : MemoryValue). m.imported_by) (entries (memories p.memories.now)))
  memories_planned = behind_brought Memories _ (memories_order V) (memories_listed p)

  pub tags_planned : IsInOrder Tags (places_brought Tags (items (imports p.imports.now)) ++ own_places (λ (t : TagValue). t.imported_by) (entries (tags p.tags.now)))
  tags_planned = behind_brought Tags _ (tags_order V) (tags_listed p)

  pub globals_planned : IsInOrder Globals (places_brought Globals (items (imports p.imports.now)) ++ own_places (λ (g : GlobalValue). g.imported_by) (entries (globals p.globals.now)))
  globals_planned = behind_brought Globals _ (globals_order V) (globals_listed p)

  -- of functions those with a body, in the order of their sizes
  pub functions_planned : (HasDead V → ⊥) → (own : List ℕ) → IsOrder (functions p.funcs.now) own → IsInOrder Functions (places_brought Functions (items (imports p.imports.now)) ++ own)
  functions_planned there own sorted = behind_brought Functions own (functions_order V) (functions_listed p own sorted there)

  -- no import brings a segment
  pub elements_planned : IsInOrder Elements (map (λ e. e.0) (entries (elements p.elements.now)))
  elements_planned = (seen_ordered element_of (elements p.elements.now), entries_rise (elements p.elements.now))

  pub data_planned : IsInOrder DataSegments (map (λ e. e.0) (entries (data_segments p.data_.now)))
  data_planned = (seen_ordered data_of (data_segments p.data_.now), entries_rise (data_segments p.data_.now))
