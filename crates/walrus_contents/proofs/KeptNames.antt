-- What an item keeps beside what is written in it.
use Rattle.std.proofs.Common.{◌≡◌, ℕ, Bool, List, map, Some, sym, ap, ◌∙◌, subst}
use Rattle.std.specs.Prelude.{◌↔◌, Contains, IsTrue}
use Rattle.std.specs.Global.{Vec}
use Rattle.walrus_base.specs.Arena.{item_at}
use Rattle.walrus_base.specs.IdSet.{has_id, ids_in}
use Rattle.walrus_base.specs.declared.keys.DataKey.{DataKey}
use Rattle.walrus_base.specs.declared.keys.ElementKey.{ElementKey}
use Rattle.walrus_base.specs.declared.set.IdHashSet.{IdHashSet}
use Rattle.walrus_base.proofs.InSet.{id_is_listed}
use Rattle.walrus_base.specs.Operators.{Space, Functions, Tables, Memories, Elements, DataSegments, Item, type_item}
use Rattle.walrus_code.specs.declared.items.ItemId.{ItemId}
use Rattle.walrus_items.specs.Functions.{FunctionValue, functions}
use Rattle.walrus_items.specs.Memories.{MemoryValue, memories}
use Rattle.walrus_items.specs.Tables.{TableValue, tables}
use Rattle.walrus_model.specs.Abstract.{Abstract}
use Rattle.walrus_model.specs.Refers.{KeepsToo}
use Rattle.walrus_base.proofs.Lists.{Contains-map}
use Rattle.walrus_model.proofs.Reach.{Contains-unmap}
use Rattle.walrus_contents.specs.Named.{Puts, PutsAll}
use Rattle.walrus_contents.specs.View.{contents_view, handlers_at, kept_data, kept_elements, kind_handlers}
use Rattle.walrus_contents.specs.declared.parts.Contents.{Contents}

-- ---- the segments of a set

abbrev pub segment_item : Space → ℕ → Item
segment_item space n = (space, n)

module _ {K : Type 0} (space : Space) (set : IdHashSet K) where
  -- the segments of the set, as items of their index space
  abbrev pub held_items : List Item
  held_items = map (segment_item space) (ids_in set)

  -- they are just those that it has
  pub set_items : (y : Item) → Contains held_items y ↔ ((n : ℕ) × IsTrue (has_id set n) × (y ≡ (space, n)))
  set_items y = (
    (λ c.
        let from = Contains-unmap (segment_item space) (ids_in set) y c in
        (from.0, (id_is_listed set from.0).1 from.1, sym from.2)),
    (λ h. subst (λ (z : Item). Contains held_items z) (sym h.2)
        (Contains-map (segment_item space) h.0 (ids_in set) ((id_is_listed set h.0).0 h.1))),
  )

  -- and so just those that something says it keeps
  kept_items : (keeps : ℕ → Bool) → keeps ≡ has_id set → (y : Item) → Contains held_items y ↔ ((n : ℕ) × IsTrue (keeps n) × (y ≡ (space, n)))
  kept_items keeps same y = subst (λ (s : ℕ → Bool). Contains held_items y ↔ ((n : ℕ) × IsTrue (s n) × (y ≡ (space, n)))) (sym same) (set_items y)

module _ (c : Contents) where
  abbrev v : Abstract
  v = contents_view c

  -- ---- what each kind keeps

  pub function_keeps : (i : ℕ) (f : FunctionValue) (old new : Vec ItemId) → item_at (functions c.funcs) i ≡ Some f
      → Puts old new (map type_item (kind_handlers f.kind)) → PutsAll old new (KeepsToo v (Functions, i))
  function_keeps i f old new is puts =
      let same : v.handler_types i ≡ kind_handlers f.kind = ap handlers_at is in
      record {
        added = map type_item (v.handler_types i);
        behind = subst (λ (ts : List ℕ). Puts old new (map type_item ts)) (sym same) puts;
        are = λ y. (
          (λ c. let from = Contains-unmap type_item (v.handler_types i) y c in (from.0, from.1, sym from.2)),
          (λ h. subst (λ (z : Item). Contains (map type_item (v.handler_types i)) z) (sym h.2) (Contains-map type_item h.0 (v.handler_types i) h.1)),
        );
      }

  pub table_keeps : (i : ℕ) (t : TableValue) (set : IdHashSet ElementKey) (old new : Vec ItemId) → item_at (tables c.tables) i ≡ Some t → t.segments ≡ has_id set
      → Puts old new (held_items Elements set) → PutsAll old new (KeepsToo v (Tables, i))
  table_keeps i t set old new is same puts =
      record { added = held_items Elements set; behind = puts; are = kept_items Elements set (v.table_segments i) (ap kept_elements is ∙ same) }

  pub memory_keeps : (i : ℕ) (m : MemoryValue) (set : IdHashSet DataKey) (old new : Vec ItemId) → item_at (memories c.memories) i ≡ Some m → m.segments ≡ has_id set
      → Puts old new (held_items DataSegments set) → PutsAll old new (KeepsToo v (Memories, i))
  memory_keeps i m set old new is same puts =
      record { added = held_items DataSegments set; behind = puts; are = kept_items DataSegments set (v.memory_segments i) (ap kept_data is ∙ same) }
