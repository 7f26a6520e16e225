-- Bytes spell each table and each global: the module's own as they are written, and those that imports bring as these are described. They
-- spell each segment.
use Rattle.wasm_entries.specs.Record as wire
use Rattle.std.proofs.Common.{◌≡◌, ⊎_elim, ℕ, Bool, true, false, List, [], ◌∷◌, cond, refl, sym, ap, ◌∙◌, subst, Some, None}
use Rattle.std.specs.Prelude.{Option, All, Contains, filter, option_map}
use Rattle.std.specs.List.{AllZip}
use Rattle.std.proofs.lemmas.List.Elements.{All-contains}
use Rattle.walrus_base.specs.Arena.{entries, item_at, items}
use Rattle.walrus_base.specs.Operators.{Tables, Globals, Item}
use Rattle.walrus_code.specs.Names.{Lookup}
use Rattle.walrus_items.specs.Imports.{ImportValue, imports}
use Rattle.walrus_items.specs.Data.{data_segments}
use Rattle.walrus_items.specs.Elements.{elements}
use Rattle.walrus_items.specs.Globals.{GlobalValue, globals}
use Rattle.walrus_items.specs.Tables.{TableValue, tables}
use Rattle.walrus_contents.specs.View as seen
use Rattle.walrus_contents.specs.View.{parts_view}
use Rattle.walrus_contents.specs.declared.parts.Parts.{Parts}
use Rattle.walrus_base.proofs.Lookups.{mapped_some}
use Rattle.walrus_model.proofs.Slots.{entry_in}
use Rattle.walrus_model.specs.Abstract.{Abstract, DataSegment, Element, Global, Import, Table}
use Rattle.walrus_model.specs.Spaces.{Thing, look}
use Rattle.walrus_model.specs.WellMade.{ImportsMatch, import_in, import_of, origin_import}
use Rattle.walrus_base.proofs.Lists.{Contains-head, Contains-map, Contains-none, Contains-tail, Contains-uncons}
use Rattle.walrus_base.proofs.Standing.{got_where, none_there, some_inj, zip_right}
use Rattle.walrus_plan.specs.Brought.{import_numbers, own_of}
use Rattle.walrus_writing.specs.Elements.{ElementIsUnspelled, IsSpelledElement}
use Rattle.walrus_writing.specs.Globals.{GlobalIsUnspelled, IsSpelledGlobal}
use Rattle.walrus_writing.specs.Globals as global_causes
use Rattle.walrus_writing.specs.Segments.{DataIsUnspelled, IsSpelledData}
use Rattle.walrus_writing.specs.Imported.{IsEntryAt, is_exact_thing}
use Rattle.walrus_plan.specs.Local.{is_own}
use Rattle.walrus_writing.specs.Tables.{IsSpelledTable, TableIsUnspelled}
use Rattle.walrus_writing.specs.Tables as table_causes
use Rattle.walrus_writing.proofs.Bare.{brought_bare}
use Rattle.walrus_plan.proofs.Matching.{origin_back}
use Rattle.walrus_code.proofs.Somes.{none_some}

-- ---- what passes a test is among those that do

module _ {X : Type 0} (test : X → Bool) where
  kept : (b : Bool) (y : X) (rest : List X) → b ≡ true → Contains (cond b (y ∷ rest) rest) y
  kept true y rest e = Contains-head y rest
  kept false y rest e = absurd (none_there e)

  behind : (b : Bool) (x y : X) (rest : List X) → Contains rest x → Contains (cond b (y ∷ rest) rest) x
  behind true x y rest c = Contains-tail y x rest c
  behind false x y rest c = c

  among_passing : (xs : List X) (x : X) → test x ≡ true → Contains xs x → Contains (filter test xs) x
  among_passing [] x e c = absurd (Contains-none x c)
  among_passing (y ∷ xs) x e c = ⊎_elim
      (λ (same : y ≡ x). subst (λ (z : X). Contains (filter test (y ∷ xs)) z) same (kept (test y) y (filter test xs) (ap test same ∙ e)))
      (λ (later : Contains xs x). behind (test y) x y (filter test xs) (among_passing xs x e later))
      (Contains-uncons y x xs c)

  -- what holds of these holds of each item that passes
  pub each_passing : (P : X → Type 0) (slots : List (Option X)) → All P (filter test (items slots)) → (i : ℕ) (x : X) → item_at slots i ≡ Some x → test x ≡ true → P x
  each_passing P slots all i x at e =
      All-contains P (filter test (items slots)) x all
      (among_passing (items slots) x e (Contains-map (λ (d : ℕ × X). d.1) (i, x) (entries slots) (entry_in slots i x at)))

-- what holds of all holds of each that is there
each_there : {X : Type 0} (P : X → Type 0) (slots : List (Option X)) → All P (items slots) → (i : ℕ) (x : X) → item_at slots i ≡ Some x → P x
each_there {X} P slots all i x at = All-contains P (items slots) x all (Contains-map (λ (d : ℕ × X). d.1) (i, x) (entries slots) (entry_in slots i x at))

-- ---- what imports bring

module _ (p : Parts) (matched : ImportsMatch (parts_view p)) (names : Lookup) (ws : List wire.Import) (written : AllZip (IsEntryAt names (parts_view p)) (import_numbers p) ws) where
  abbrev V : Abstract
  V = parts_view p

  -- an import that is there is numbered
  numbered : (i : ℕ) (x : Import) → V.imports i ≡ Some x → Contains (import_numbers p) i
  numbered i x at =
      let v = mapped_some seen.import_of (item_at (imports p.imports.now) i) x at in
      Contains-map (λ (e : ℕ × ImportValue). e.0) (i, v.0) (entries (imports p.imports.now)) (entry_in (imports p.imports.now) i v.0 v.1)

  -- what is said of things of imports: no exact heap type stands in their types
  abbrev IsPlainAt : Item → Type 0
  IsPlainAt x = (thing : Thing x.0) → look V x.0 x.1 ≡ Some thing → is_exact_thing x.0 thing ≡ false

  entry_plain : (i : ℕ) (w : wire.Import) (e : IsEntryAt names V i w) → IsPlainAt e.value.item
  entry_plain i w e thing at =
      subst (λ (y : Thing e.value.item.0). is_exact_thing e.value.item.0 y ≡ false) (some_inj e.entry.thing thing (sym e.entry.is ∙ at)) e.entry.describes.not_exact

  brought_plain : (x : Item) (i : ℕ) → import_of V x ≡ Some i → IsPlainAt x
  brought_plain x i says =
      let m = matched.items x i says in
      let c = numbered i m.0 m.1 in
      let z = zip_right (IsEntryAt names V) (import_numbers p) ws c.0 i written (got_where (import_numbers p) i c) in
      subst IsPlainAt (ap (λ (y : Import). y.item) (some_inj z.2.value m.0 (sym z.2.is ∙ m.1)) ∙ m.2) (entry_plain i z.0 z.2)

  -- ---- tables

  brought_table : (n i : ℕ) (t : Table) → V.tables n ≡ Some t → import_of V (Tables, n) ≡ Some i → TableIsUnspelled t → ⊥
  brought_table n i t at says (table_causes.ExactElement exact) = none_there (sym (brought_plain (Tables, n) i says t at) ∙ exact)
  brought_table n i t at says (table_causes.UnspelledInitialiser ops is u) = none_some ops (sym (brought_bare p Tables n i t says at) ∙ is)

  table_spelled : (n : ℕ) (v : TableValue) → item_at (tables p.tables.now) n ≡ Some v → (o : Option ℕ) → v.imported_by ≡ o
      → All IsSpelledTable (own_of (λ t. t.imported_by) (items (tables p.tables.now))) → TableIsUnspelled (seen.table_of v) → ⊥
  table_spelled n v at None by own = each_passing (λ (t : TableValue). is_own t.imported_by) IsSpelledTable (tables p.tables.now) own n v at (ap is_own by)
  table_spelled n v at (Some i) by own =
      let there : V.tables n ≡ Some (seen.table_of v) = ap (λ (o : Option TableValue). option_map seen.table_of o) at in
      brought_table n i (seen.table_of v) there (ap (import_in (λ (t : Table). origin_import t.origin)) there ∙ origin_back v.imported_by ∙ by)

  pub tables_all_spelled : All IsSpelledTable (own_of (λ t. t.imported_by) (items (tables p.tables.now))) → (i : ℕ) (t : Table) → V.tables i ≡ Some t → TableIsUnspelled t → ⊥
  tables_all_spelled own n t at =
      let v = mapped_some seen.table_of (item_at (tables p.tables.now) n) t at in
      subst (λ (u : Table). TableIsUnspelled u → ⊥) (sym v.2) (table_spelled n v.0 v.1 v.0.imported_by refl own)

  -- ---- segments, which no import brings

  pub elements_all_spelled : All IsSpelledElement (items (elements p.elements.now)) → (i : ℕ) (e : Element) → V.elements i ≡ Some e → ElementIsUnspelled e → ⊥
  elements_all_spelled all n e at =
      let v = mapped_some seen.element_of (item_at (elements p.elements.now) n) e at in
      subst (λ (u : Element). ElementIsUnspelled u → ⊥) (sym v.2) (each_there IsSpelledElement (elements p.elements.now) all n v.0 v.1)

  pub segments_all_spelled : All IsSpelledData (items (data_segments p.data_.now)) → (i : ℕ) (d : DataSegment) → V.data_segments i ≡ Some d → DataIsUnspelled d → ⊥
  segments_all_spelled all n d at =
      let v = mapped_some seen.data_of (item_at (data_segments p.data_.now) n) d at in
      subst (λ (u : DataSegment). DataIsUnspelled u → ⊥) (sym v.2) (each_there IsSpelledData (data_segments p.data_.now) all n v.0 v.1)

  -- ---- globals

  brought_global : (n i : ℕ) (g : Global) → V.globals n ≡ Some g → import_of V (Globals, n) ≡ Some i → GlobalIsUnspelled g → ⊥
  brought_global n i g at says (global_causes.ExactValue exact) = none_there (sym (brought_plain (Globals, n) i says g at) ∙ exact)
  brought_global n i g at says (global_causes.UnspelledInitialiser ops is u) = none_some ops (sym (brought_bare p Globals n i g says at) ∙ is)

  global_spelled : (n : ℕ) (v : GlobalValue) → item_at (globals p.globals.now) n ≡ Some v → (o : Option ℕ) → v.imported_by ≡ o
      → All IsSpelledGlobal (own_of (λ g. g.imported_by) (items (globals p.globals.now))) → GlobalIsUnspelled (seen.global_of v) → ⊥
  global_spelled n v at None by own = each_passing (λ (g : GlobalValue). is_own g.imported_by) IsSpelledGlobal (globals p.globals.now) own n v at (ap is_own by)
  global_spelled n v at (Some i) by own =
      let there : V.globals n ≡ Some (seen.global_of v) = ap (λ (o : Option GlobalValue). option_map seen.global_of o) at in
      brought_global n i (seen.global_of v) there (ap (import_in (λ (g : Global). origin_import g.origin)) there ∙ origin_back v.imported_by ∙ by)

  pub globals_all_spelled : All IsSpelledGlobal (own_of (λ g. g.imported_by) (items (globals p.globals.now))) → (i : ℕ) (g : Global) → V.globals i ≡ Some g → GlobalIsUnspelled g → ⊥
  globals_all_spelled own n g at =
      let v = mapped_some seen.global_of (item_at (globals p.globals.now) n) g at in
      subst (λ (u : Global). GlobalIsUnspelled u → ⊥) (sym v.2) (global_spelled n v.0 v.1 v.0.imported_by refl own)
