-- Each space is ordered by what brings its items; and the items of a collection that no import brings, by rising place, are those of its space.
use Rattle.std.proofs.Common.{◌≡◌, inl, inr, ⊎_elim, ℕ, ◌<◌, Bool, true, false, List, [], ◌∷◌, map, refl, sym, ap, ◌∙◌, subst, cond, Some, None, arith}
use Rattle.std.specs.Prelude.{Option, IsSome, AllPairs, Contains, filter, option_map}
use Rattle.std.specs.List.{AllByRecursion}
use Rattle.walrus_base.specs.Arena.{entries, item_at}
use Rattle.walrus_base.specs.Operators.{Functions, Tables, Memories, Tags, Globals}
use Rattle.walrus_items.specs.Globals.{GlobalValue, globals}
use Rattle.walrus_items.specs.Memories.{MemoryValue, memories}
use Rattle.walrus_items.specs.Tables.{TableValue, tables}
use Rattle.walrus_items.specs.Tags.{TagValue, tags}
use Rattle.walrus_items.specs.Imports.{ImportValue, imports}
use Rattle.walrus_functions.proofs.LawOrder.{Sorted, sorted_of}
use Rattle.walrus_contents.specs.View as seen
use Rattle.walrus_contents.specs.View.{origin_of, parts_view}
use Rattle.walrus_contents.specs.declared.parts.Parts.{Parts}
use Rattle.walrus_model.proofs.Slots.{entry_in, stands_at}
use Rattle.walrus_model.specs.Abstract.{Abstract, Function, FunctionKind, Global, Import, ImportedFunction, LocalFunction, Uninitialised, Memory, Origin, ImportedBy, Defined, Table, Tag}
use Rattle.walrus_model.specs.Order.{FunctionsByImport, OriginsInOrder}
use Rattle.walrus_model.specs.Same.{BothAnd}
use Rattle.walrus_model.specs.WellMade.{import_in, kind_import, origin_import}
use Rattle.walrus_model.proofs.Arenas.{entries_rise}
use Rattle.walrus_base.proofs.Lists.{Contains-head, Contains-map, Contains-none, Contains-tail, Contains-uncons}
use Rattle.walrus_model.proofs.OrderOfPlaces.{pairs_weaker}
use Rattle.walrus_model.proofs.Reach.{Contains-unmap}
use Rattle.walrus_plan.specs.Brought.{own_places}
use Rattle.walrus_plan.specs.Local.{is_own}
use Rattle.walrus_plan.proofs.BroughtBy.{kind_origin, origin_is}
use Rattle.walrus_model.proofs.OrderByImport.{ListsImports, ListsOwn, OrdersSpace}
use Rattle.walrus_functions.proofs.SortedPairs.{pairs_of}
use Rattle.walrus_code.proofs.Somes.{none_some}
use Rattle.std.proofs.lemmas.Bool.{false≢true as is_false}

-- ---- items with an origin

same_place : (i : ℕ) (o : Origin) → OriginsInOrder i i o o → ⊥
same_place i (ImportedBy p) less = omega (arith, less)
same_place i Defined less = omega (arith, less)

module _ {Y : Type 0} (origin : Y → Origin) where
  abbrev brought_by : Option Y → Option ℕ
  brought_by o = import_in (λ y. origin_import (origin y)) o

  abbrev Before : ℕ → ℕ → Option Y → Option Y → Type 0
  Before i j o u = BothAnd (OriginsInOrder i j) (option_map origin o) (option_map origin u)

  brought_live : (o : Option Y) (p : ℕ) → brought_by o ≡ Some p → IsSome o
  brought_live (Some y) p e = refl
  brought_live None p e = absurd (none_some p e)

  brought_before : (i j p q : ℕ) (o u : Option Y) → brought_by o ≡ Some p → brought_by u ≡ Some q → p < q → Before i j o u
  brought_before i j p q (Some y) (Some z) first second less = rw (origin_is (origin y) p first, origin_is (origin z) q second) less
  brought_before i j p q None u first second less = absurd (none_some p first)
  brought_before i j p q (Some y) None first second less = absurd (none_some q second)

  not_before : (i : ℕ) (o : Option Y) → Before i i o o → ⊥
  not_before i (Some y) less = same_place i (origin y) less
  not_before i None less = less

  own_behind : (i j p : ℕ) (o u : Option Y) → brought_by o ≡ Some p → option_map origin u ≡ Some Defined → Before i j o u
  own_behind i j p (Some y) u first own = rw (origin_is (origin y) p first, own) tt
  own_behind i j p None u first own = absurd (none_some p first)

  own_before : (i j : ℕ) (o u : Option Y) → option_map origin o ≡ Some Defined → option_map origin u ≡ Some Defined → i < j → Before i j o u
  own_before i j o u first second less = rw (first, second) less

module _ (v : Abstract) where
  pub tables_order : OrdersSpace v Tables
  tables_order = record {
    live = λ i p e. brought_live (λ (t : Table). t.origin) (v.tables i) p e;
    brought = λ i j p q first second less. brought_before (λ (t : Table). t.origin) i j p q (v.tables i) (v.tables j) first second less;
    apart = λ i less. not_before (λ (t : Table). t.origin) i (v.tables i) less;
  }

  pub memories_order : OrdersSpace v Memories
  memories_order = record {
    live = λ i p e. brought_live (λ (t : Memory). t.origin) (v.memories i) p e;
    brought = λ i j p q first second less. brought_before (λ (t : Memory). t.origin) i j p q (v.memories i) (v.memories j) first second less;
    apart = λ i less. not_before (λ (t : Memory). t.origin) i (v.memories i) less;
  }

  pub tags_order : OrdersSpace v Tags
  tags_order = record {
    live = λ i p e. brought_live (λ (t : Tag). t.origin) (v.tags i) p e;
    brought = λ i j p q first second less. brought_before (λ (t : Tag). t.origin) i j p q (v.tags i) (v.tags j) first second less;
    apart = λ i less. not_before (λ (t : Tag). t.origin) i (v.tags i) less;
  }

  pub globals_order : OrdersSpace v Globals
  globals_order = record {
    live = λ i p e. brought_live (λ (t : Global). t.origin) (v.globals i) p e;
    brought = λ i j p q first second less. brought_before (λ (t : Global). t.origin) i j p q (v.globals i) (v.globals j) first second less;
    apart = λ i less. not_before (λ (t : Global). t.origin) i (v.globals i) less;
  }

  -- ---- functions

  function_live : (o : Option Function) (p : ℕ) → import_in (λ (f : Function). kind_import f.kind) o ≡ Some p → IsSome o
  function_live (Some f) p e = refl
  function_live None p e = absurd (none_some p e)

  functions_before : (i j p q : ℕ) (o u : Option Function) → import_in (λ (f : Function). kind_import f.kind) o ≡ Some p → import_in (λ (f : Function). kind_import f.kind) u ≡ Some q → p < q
      → BothAnd (FunctionsByImport i j) (option_map (λ (f : Function). f.kind) o) (option_map (λ (f : Function). f.kind) u)
  functions_before i j p q (Some f) (Some g) first second less = rw (kind_origin f.kind p first, kind_origin g.kind q second) less
  functions_before i j p q None u first second less = absurd (none_some p first)
  functions_before i j p q (Some f) None first second less = absurd (none_some q second)

  same_kind : (i : ℕ) (k : FunctionKind) → FunctionsByImport i i k k → ⊥
  same_kind i (ImportedFunction p) less = omega (arith, less)
  same_kind i (LocalFunction b) (inl less) = omega (arith, less)
  same_kind i (LocalFunction b) (inr less) = let h = less.1 in omega (arith, h)
  same_kind i Uninitialised less = less

  function_apart : (i : ℕ) (o : Option Function) → BothAnd (FunctionsByImport i i) (option_map (λ (f : Function). f.kind) o) (option_map (λ (f : Function). f.kind) o) → ⊥
  function_apart i (Some f) less = same_kind i f.kind less
  function_apart i None less = less

  pub functions_order : OrdersSpace v Functions
  functions_order = record {
    live = λ i p e. function_live (v.functions i) p e;
    brought = λ i j p q first second less. functions_before i j p q (v.functions i) (v.functions j) first second less;
    apart = λ i less. function_apart i (v.functions i) less;
  }

-- ---- the imports of the parts

there_at : (o : Option ImportValue) (x : Import) → option_map seen.import_of o ≡ Some x → (e : ImportValue) × (o ≡ Some e)
there_at (Some e) x at = (e, refl)
there_at None x at = absurd (none_some x at)

pub imports_listed : (p : Parts) → ListsImports (parts_view p) (map (λ e. e.0) (entries (imports p.imports.now)))
imports_listed p = record {
  rises = entries_rise (imports p.imports.now);
  all = λ i x at.
      let e = there_at (item_at (imports p.imports.now) i) x at in
      Contains-map (λ (d : ℕ × ImportValue). d.0) (i, e.0) (entries (imports p.imports.now)) (entry_in (imports p.imports.now) i e.0 e.1);
}

-- ---- the items of a collection that no import brings

module _ {X : Type 0} (by : X → Option ℕ) where
  abbrev is_kept : ℕ × X → Bool
  is_kept e = is_own (by e.1)

  kept_step : (P : ℕ → Type 0) (e : ℕ × X) (es : List (ℕ × X)) (b : Bool) → P e.0 → AllByRecursion P (map (λ d. d.0) (filter is_kept es)) → AllByRecursion P (map (λ d. d.0) (cond b (e ∷ filter is_kept es) (filter is_kept es)))
  kept_step P e es true first rest = (first, rest)
  kept_step P e es false first rest = rest

  kept_each : (P : ℕ → Type 0) (es : List (ℕ × X)) → AllByRecursion P (map (λ d. d.0) es) → AllByRecursion P (map (λ d. d.0) (filter is_kept es))
  kept_each P [] h = tt
  kept_each P (e ∷ es) h = kept_step P e es (is_kept e) h.0 (kept_each P es h.1)

  sorted_step : (e : ℕ × X) (es : List (ℕ × X)) (b : Bool) → AllByRecursion (λ j. e.0 < j) (map (λ d. d.0) (filter is_kept es)) → Sorted (λ (i j : ℕ). i < j) (map (λ d. d.0) (filter is_kept es))
      → Sorted (λ (i j : ℕ). i < j) (map (λ d. d.0) (cond b (e ∷ filter is_kept es) (filter is_kept es)))
  sorted_step e es true first rest = (first, rest)
  sorted_step e es false first rest = rest

  kept_sorted : (es : List (ℕ × X)) → Sorted (λ (i j : ℕ). i < j) (map (λ d. d.0) es) → Sorted (λ (i j : ℕ). i < j) (map (λ d. d.0) (filter is_kept es))
  kept_sorted [] h = tt
  kept_sorted (e ∷ es) h = sorted_step e es (is_kept e) (kept_each (λ j. e.0 < j) es h.0) (kept_sorted es h.1)

  -- what is kept was there, and passed the test
  from_step : (e : ℕ × X) (es : List (ℕ × X)) (d : ℕ × X) (b : Bool) → is_kept e ≡ b → (Contains (filter is_kept es) d → Contains es d × (is_kept d ≡ true))
      → Contains (cond b (e ∷ filter is_kept es) (filter is_kept es)) d → Contains (e ∷ es) d × (is_kept d ≡ true)
  from_step e es d true test more at = ⊎_elim
      (λ (same : e ≡ d). (subst (λ (x : ℕ × X). Contains (e ∷ es) x) same (Contains-head e es), sym (ap is_kept same) ∙ test))
      (λ later. let h = more later in (Contains-tail e d es h.0, h.1))
      (Contains-uncons e d (filter is_kept es) at)
  from_step e es d false test more at = let h = more at in (Contains-tail e d es h.0, h.1)

  kept_from : (es : List (ℕ × X)) (d : ℕ × X) → Contains (filter is_kept es) d → Contains es d × (is_kept d ≡ true)
  kept_from [] d at = absurd (Contains-none d at)
  kept_from (e ∷ es) d at = from_step e es d (is_kept e) refl (kept_from es d) at

  into_step : (e : ℕ × X) (es : List (ℕ × X)) (d : ℕ × X) (b : Bool) → Contains (filter is_kept es) d → Contains (cond b (e ∷ filter is_kept es) (filter is_kept es)) d
  into_step e es d true at = Contains-tail e d (filter is_kept es) at
  into_step e es d false at = at

  head_step : (e : ℕ × X) (es : List (ℕ × X)) (b : Bool) → b ≡ true → Contains (cond b (e ∷ filter is_kept es) (filter is_kept es)) e
  head_step e es true is = Contains-head e (filter is_kept es)
  head_step e es false is = absurd (is_false is)

  kept_in : (es : List (ℕ × X)) (d : ℕ × X) → is_kept d ≡ true → Contains es d → Contains (filter is_kept es) d
  kept_in [] d test at = absurd (Contains-none d at)
  kept_in (e ∷ es) d test at = ⊎_elim
      (λ (same : e ≡ d). subst (λ (x : ℕ × X). Contains (filter is_kept (e ∷ es)) x) same (head_step e es (is_kept e) (ap is_kept same ∙ test)))
      (λ later. into_step e es d (is_kept e) (kept_in es d test later))
      (Contains-uncons e d es at)

  module _ {Y : Type 0} (view : X → Y) (origin : Y → Origin) (says : (x : X) → origin (view x) ≡ origin_of (by x)) (slots : List (Option X)) where
    own_none : (o : Option ℕ) → is_own o ≡ true → origin_of o ≡ Defined
    own_none None e = refl
    own_none (Some k) e = absurd (is_false e)

    pub own_defined : (i : ℕ) → Contains (own_places by (entries slots)) i → option_map origin (option_map view (item_at slots i)) ≡ Some Defined
    own_defined i at =
        let e = Contains-unmap (λ (d : ℕ × X). d.0) (filter is_kept (entries slots)) i at in
        let k = kept_from (entries slots) e.0 e.1 in
        ap (λ (j : ℕ). option_map origin (option_map view (item_at slots j))) (sym e.2)
        ∙ ap (λ (o : Option X). option_map origin (option_map view o)) (stands_at slots e.0 k.0)
        ∙ ap (λ (o : Origin). Some o) (says e.0.1 ∙ own_none (by e.0.1) k.1)

    none_own : (o : Option ℕ) → origin_import (origin_of o) ≡ None → is_own o ≡ true
    none_own None e = refl
    none_own (Some k) e = absurd (none_some k (sym e))

    own_all : (i : ℕ) (o : Option X) → item_at slots i ≡ o → IsSome (option_map view o) → import_in (λ y. origin_import (origin y)) (option_map view o) ≡ None → Contains (own_places by (entries slots)) i
    own_all i (Some x) at live none =
        let own : is_own (by x) ≡ true = none_own (by x) (sym (ap origin_import (says x)) ∙ none) in
        Contains-map (λ (d : ℕ × X). d.0) (i, x) (filter is_kept (entries slots)) (kept_in (entries slots) (i, x) own (entry_in slots i x at))
    own_all i None at live none = absurd (is_false live)

    some_live : (o : Option Y) → option_map origin o ≡ Some Defined → IsSome o
    some_live (Some y) e = refl
    some_live None e = absurd (none_some Defined e)

    pub own_there : (i : ℕ) → Contains (own_places by (entries slots)) i → IsSome (option_map view (item_at slots i))
    own_there i at = some_live (option_map view (item_at slots i)) (own_defined i at)

    pub own_listed : (i : ℕ) → IsSome (option_map view (item_at slots i)) → import_in (λ y. origin_import (origin y)) (option_map view (item_at slots i)) ≡ None → Contains (own_places by (entries slots)) i
    own_listed i live none = own_all i (item_at slots i) refl live none

    abbrev InOrder : ℕ → ℕ → Type 0
    InOrder i j = Before origin i j (option_map view (item_at slots i)) (option_map view (item_at slots j))

    pub own_sorted : AllPairs InOrder (own_places by (entries slots))
    own_sorted = pairs_weaker (λ (i j : ℕ). i < j) InOrder (own_places by (entries slots))
        (pairs_of (λ (i j : ℕ). i < j) (own_places by (entries slots)) (kept_sorted (entries slots) (sorted_of (λ (i j : ℕ). i < j) (map (λ d. d.0) (entries slots)) (entries_rise slots))))
        (λ i j at to less. own_before origin i j (option_map view (item_at slots i)) (option_map view (item_at slots j)) (own_defined i at) (own_defined j to) less)

    pub behind_brought : (i j p : ℕ) → import_in (λ y. origin_import (origin y)) (option_map view (item_at slots i)) ≡ Some p → Contains (own_places by (entries slots)) j → InOrder i j
    behind_brought i j p first at = own_behind origin i j p (option_map view (item_at slots i)) (option_map view (item_at slots j)) first (own_defined j at)

module _ (p : Parts) where
  pub tables_listed : ListsOwn (parts_view p) Tables (own_places (λ (t : TableValue). t.imported_by) (entries (tables p.tables.now)))
  tables_listed = record {
    there = own_there (λ (t : TableValue). t.imported_by) seen.table_of (λ (t : Table). t.origin) (λ t. refl) (tables p.tables.now);
    all = own_listed (λ (t : TableValue). t.imported_by) seen.table_of (λ (t : Table). t.origin) (λ t. refl) (tables p.tables.now);
    sorted = own_sorted (λ (t : TableValue). t.imported_by) seen.table_of (λ (t : Table). t.origin) (λ t. refl) (tables p.tables.now);
    behind = behind_brought (λ (t : TableValue). t.imported_by) seen.table_of (λ (t : Table). t.origin) (λ t. refl) (tables p.tables.now);
  }

  pub memories_listed : ListsOwn (parts_view p) Memories (own_places (λ (m : MemoryValue). m.imported_by) (entries (memories p.memories.now)))
  memories_listed = record {
    there = own_there (λ (m : MemoryValue). m.imported_by) seen.memory_of (λ (m : Memory). m.origin) (λ m. refl) (memories p.memories.now);
    all = own_listed (λ (m : MemoryValue). m.imported_by) seen.memory_of (λ (m : Memory). m.origin) (λ m. refl) (memories p.memories.now);
    sorted = own_sorted (λ (m : MemoryValue). m.imported_by) seen.memory_of (λ (m : Memory). m.origin) (λ m. refl) (memories p.memories.now);
    behind = behind_brought (λ (m : MemoryValue). m.imported_by) seen.memory_of (λ (m : Memory). m.origin) (λ m. refl) (memories p.memories.now);
  }

  pub tags_listed : ListsOwn (parts_view p) Tags (own_places (λ (t : TagValue). t.imported_by) (entries (tags p.tags.now)))
  tags_listed = record {
    there = own_there (λ (t : TagValue). t.imported_by) seen.tag_of (λ (t : Tag). t.origin) (λ t. refl) (tags p.tags.now);
    all = own_listed (λ (t : TagValue). t.imported_by) seen.tag_of (λ (t : Tag). t.origin) (λ t. refl) (tags p.tags.now);
    sorted = own_sorted (λ (t : TagValue). t.imported_by) seen.tag_of (λ (t : Tag). t.origin) (λ t. refl) (tags p.tags.now);
    behind = behind_brought (λ (t : TagValue). t.imported_by) seen.tag_of (λ (t : Tag). t.origin) (λ t. refl) (tags p.tags.now);
  }

  pub globals_listed : ListsOwn (parts_view p) Globals (own_places (λ (g : GlobalValue). g.imported_by) (entries (globals p.globals.now)))
  globals_listed = record {
    there = own_there (λ (g : GlobalValue). g.imported_by) seen.global_of (λ (g : Global). g.origin) (λ g. refl) (globals p.globals.now);
    all = own_listed (λ (g : GlobalValue). g.imported_by) seen.global_of (λ (g : Global). g.origin) (λ g. refl) (globals p.globals.now);
    sorted = own_sorted (λ (g : GlobalValue). g.imported_by) seen.global_of (λ (g : Global). g.origin) (λ g. refl) (globals p.globals.now);
    behind = behind_brought (λ (g : GlobalValue). g.imported_by) seen.global_of (λ (g : Global). g.origin) (λ g. refl) (globals p.globals.now);
  }
