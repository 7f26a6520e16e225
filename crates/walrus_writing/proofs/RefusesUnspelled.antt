-- A body that can't be written isn't well formed; an exact heap type, one of an imported item among them, and a constant expression that no
-- bytes spell are those of the module seen.
use Rattle.std.proofs.Common.{◌≡◌, ℕ, true, List, [], ◌∷◌, ◌++◌, inl, inr, refl, sym, subst, Some}
use Rattle.std.specs.Prelude.{Option, Contains, option_map, Err}
use Rattle.walrus_base.specs.Arena.{item_at, items}
use Rattle.walrus_base.specs.Id.{place}
use Rattle.walrus_base.specs.Types.{CompType, Func, Struct, Array, HeapType, OfHeap, Concrete, Exact, ValType, I32, I64, F32, F64, V128, Ref, IsNotExact, comp_heaps, val_heaps}
use Rattle.walrus_base.specs.Operators.{Space, Types, Functions, Tables, Memories, Tags, Globals, Elements, DataSegments, Item, Op}
use Rattle.walrus_base.specs.TypeDef.{TypeDef, type_params}
use Rattle.walrus_code.specs.Names.{Lookup}
use Rattle.walrus_code.specs.Results.{heap_is_exact, val_is_exact}
use Rattle.walrus_constants.specs.Written.{IsUnspelled, ExactHeap, NoOperator}
use Rattle.walrus_items.specs.LocalFunction.{LocalFunction}
use Rattle.walrus_functions.specs.EmittedBody.{CantBeWritten, comp_takes, takes}
use Rattle.walrus_base.specs.ModuleTypes.{type_slots}
use Rattle.walrus_functions.specs.Handlers.{params_of}
use Rattle.walrus_functions.specs.Laws as laws
use Rattle.walrus_functions.proofs.LawWritable.{ill_formed}
use Rattle.walrus_groups.specs.Indexed.{HasExact}
use Rattle.walrus_items.specs.Data.{DataValue, data_segments}
use Rattle.walrus_items.specs.Elements.{ElementValue, elements}
use Rattle.walrus_items.specs.Globals.{GlobalValue, globals}
use Rattle.walrus_items.specs.Tables.{TableValue, tables}
use Rattle.walrus_contents.specs.View.{body, data_of, element_of, global_of, parts_view, table_of}
use Rattle.walrus_contents.specs.declared.parts.Parts.{Parts}
use Rattle.walrus_model.proofs.Slots.{item_seen}
use Rattle.walrus_model.specs.Abstract as abstract
use Rattle.walrus_model.specs.Config.{Config}
use Rattle.walrus_model.specs.Dead.{HasDead}
use Rattle.walrus_model.specs.Rules.{IsFunctionComp}
use Rattle.walrus_model.specs.Spaces.{Thing, look}
use Rattle.walrus_model.specs.WellMade.{consts_by, consts_in, data_kind_consts, element_kind_consts, element_item_consts, element_item_heaps, heaps_by, option_consts}
use Rattle.walrus_base.proofs.Lists.{Contains-append_1, Contains-append_2, Contains-head}
use Rattle.walrus_base.proofs.Standing.{none_there}
use Rattle.walrus_items.specs.declared.error.Error.{Error}
use Rattle.walrus_items.specs.declared.error.Error.TheVariants as errors
use Rattle.walrus_theorem.specs.Features.{features_of}
use Rattle.walrus_theorem.specs.Refused.{HasUnspelled, EmptyConstant, ExactConstant, ExactType, IllFormed}
use Rattle.walrus_theorem.specs.WellMade.{IsWellFormed}
use Rattle.walrus_writing.specs.Parts.{function_seen, source}
use Rattle.walrus_writing.specs.Elements as elements_spelled
use Rattle.walrus_writing.specs.Globals as globals_spelled
use Rattle.walrus_writing.specs.Imported.{ImportIsExact, RefusesImports, is_exact_thing}
use Rattle.walrus_writing.specs.Customs.{Task}
use Rattle.walrus_writing.specs.Refusals.{HasBody, HasUnspellable, AnImport, ABody, AType, ATable, AGlobal, AnElement, ASegment, RefusesItems}
use Rattle.walrus_writing.specs.Segments.{DataIsUnspelled, UnspelledOffset}
use Rattle.walrus_writing.specs.Tables as tables_spelled

-- ---- function types

comp_taken : (comp : CompType ℕ) → IsFunctionComp comp → comp_takes comp ≡ Some (type_params comp)
comp_taken (Func params results) is = refl
comp_taken (Struct fields) is = absurd is
comp_taken (Array element) is = absurd is

def_taken : (def : Option TypeDef) (x : TypeDef) → def ≡ Some x → IsFunctionComp x.sub.comp → takes def ≡ Some (params_of def)
def_taken def x e is = subst (λ (o : Option TypeDef). takes o ≡ Some (params_of o)) (sym e) (comp_taken x.sub.comp is)

module _ (c : Config) (p : Parts) where
  abbrev V : abstract.Abstract
  V = parts_view p

  abbrev types : List (Option TypeDef)
  types = type_slots p.types.now

  view_well_formed : (names : Lookup) (f : LocalFunction) → IsWellFormed c V (place f.ty) (body p.locals.now f) → laws.SourceIsWellFormed (source p names (features_of c) f)
  view_well_formed names f w = record {
    fits = record {
      types = params_of (item_at types (place f.ty));
      taken = def_taken (item_at types (place f.ty)) w.function_type.0 w.function_type.1 w.function_type.2;
      typed = w.typed;
      distinct = w.distinct;
    };
    names = w.names;
    further = w.further;
    types = w.types;
    typed = w.further_typed;
    bytes = w.text;
    reads = w.read;
  }

  not_formed : (HasDead V → ⊥) → HasBody p (features_of c) CantBeWritten → HasUnspelled c V
  not_formed lives (names, (n, (f, (is, cant)))) =
      IllFormed lives n (function_seen p f) (body p.locals.now f) is refl (λ w. ill_formed (source p names (features_of c) f) cant (view_well_formed names f w))

  exact : HasExact (items types) → HasUnspelled c V
  exact (x, (h, (among, at, not))) =
      let seen = item_seen types x among in
      ExactType (Types, seen.0) h (subst (λ (o : Option TypeDef). Contains (heaps_by (λ (t : TypeDef). comp_heaps t.sub.comp) o) h) (sym seen.1) at) not

  -- an initialiser that no bytes spell
  const_unspelled : (x : Item) (ops : List Op) → Contains (consts_in V x) ops → IsUnspelled ops → HasUnspelled c V
  const_unspelled x ops at (NoOperator none) = EmptyConstant x (subst (λ (l : List Op). Contains (consts_in V x) l) none at)
  const_unspelled x ops at (ExactHeap h has not) = ExactConstant x ops h at has not

  exact_heap : (h : HeapType ℕ) → heap_is_exact h ≡ true → IsNotExact h → ⊥
  exact_heap (OfHeap b) e not = none_there e
  exact_heap (Concrete t) e not = none_there e
  exact_heap (Exact t) e not = not

  exact_value : (v : ValType ℕ) → val_is_exact v ≡ true → (h : HeapType ℕ) × (Contains (val_heaps v) h × (IsNotExact h → ⊥))
  exact_value (Ref r) e = (r.heap, (Contains-head r.heap [], exact_heap r.heap e))
  exact_value I32 e = absurd (none_there e)
  exact_value I64 e = absurd (none_there e)
  exact_value F32 e = absurd (none_there e)
  exact_value F64 e = absurd (none_there e)
  exact_value V128 e = absurd (none_there e)

  table_unspelled : (t : TableValue) → Contains (items (tables p.tables.now)) t → tables_spelled.TableIsUnspelled (table_of t) → HasUnspelled c V
  table_unspelled t among (tables_spelled.ExactElement e) =
      let seen = item_seen (tables p.tables.now) t among in
      ExactType (Tables, seen.0) t.element.heap
      (subst (λ (o : Option TableValue). Contains (heaps_by (λ (x : abstract.Table). x.ty.element.heap ∷ []) (option_map table_of o)) t.element.heap) (sym seen.1) (Contains-head t.element.heap []))
      (exact_heap t.element.heap e)
  table_unspelled t among (tables_spelled.UnspelledInitialiser ops is unspelled) =
      let seen = item_seen (tables p.tables.now) t among in
      const_unspelled (Tables, seen.0) ops
      (subst (λ (o : Option TableValue). Contains (consts_by (λ (x : abstract.Table). option_consts x.initialiser) (option_map table_of o)) ops) (sym seen.1) (subst (λ (i : Option (List Op)). Contains (option_consts i) ops) (sym is) (Contains-head ops [])))
      unspelled

  global_unspelled : (g : GlobalValue) → Contains (items (globals p.globals.now)) g → globals_spelled.GlobalIsUnspelled (global_of g) → HasUnspelled c V
  global_unspelled g among (globals_spelled.ExactValue e) =
      let seen = item_seen (globals p.globals.now) g among in
      let h = exact_value g.ty e in
      ExactType (Globals, seen.0) h.0
      (subst (λ (o : Option GlobalValue). Contains (heaps_by (λ (x : abstract.Global). val_heaps x.ty.value) (option_map global_of o)) h.0) (sym seen.1) h.1.0)
      h.1.1
  global_unspelled g among (globals_spelled.UnspelledInitialiser ops is unspelled) =
      let seen = item_seen (globals p.globals.now) g among in
      const_unspelled (Globals, seen.0) ops
      (subst (λ (o : Option GlobalValue). Contains (consts_by (λ (x : abstract.Global). option_consts x.initialiser) (option_map global_of o)) ops) (sym seen.1) (subst (λ (i : Option (List Op)). Contains (option_consts i) ops) (sym is) (Contains-head ops [])))
      unspelled

  -- a segment of elements with one, or with an exact heap type
  element_const : (e : ElementValue) → Contains (items (elements p.elements.now)) e → (ops : List Op) → Contains (element_kind_consts (element_of e).kind ++ element_item_consts (element_of e).items) ops → IsUnspelled ops → HasUnspelled c V
  element_const e among ops at =
      let seen = item_seen (elements p.elements.now) e among in
      const_unspelled (Elements, seen.0) ops
      (subst (λ (o : Option ElementValue). Contains (consts_by (λ (x : abstract.Element). element_kind_consts x.kind ++ element_item_consts x.items) (option_map element_of o)) ops) (sym seen.1) at)

  element_unspelled : (e : ElementValue) → Contains (items (elements p.elements.now)) e → elements_spelled.ElementIsUnspelled (element_of e) → HasUnspelled c V
  element_unspelled e among (inl (elements_spelled.UnspelledOffset table offset is unspelled)) =
      element_const e among offset
      (Contains-append_1 offset (element_kind_consts (element_of e).kind) (element_item_consts (element_of e).items) (subst (λ (k : abstract.ElementKind). Contains (element_kind_consts k) offset) (sym is) (Contains-head offset [])))
      unspelled
  element_unspelled e among (inr (elements_spelled.ExactItems ty es is at)) =
      let seen = item_seen (elements p.elements.now) e among in
      ExactType (Elements, seen.0) ty.heap
      (subst (λ (o : Option ElementValue). Contains (heaps_by (λ (x : abstract.Element). element_item_heaps x.items) (option_map element_of o)) ty.heap) (sym seen.1) (subst (λ (x : abstract.ElementItems). Contains (element_item_heaps x) ty.heap) (sym is) (Contains-head ty.heap [])))
      (exact_heap ty.heap at)
  element_unspelled e among (inr (elements_spelled.UnspelledItem ty es ops is at unspelled)) =
      element_const e among ops
      (Contains-append_2 ops (element_kind_consts (element_of e).kind) (element_item_consts (element_of e).items) (subst (λ (x : abstract.ElementItems). Contains (element_item_consts x) ops) (sym is) at))
      unspelled

  segment_unspelled : (d : DataValue) → Contains (items (data_segments p.data_.now)) d → DataIsUnspelled (data_of d) → HasUnspelled c V
  segment_unspelled d among (UnspelledOffset memory offset is unspelled) =
      let seen = item_seen (data_segments p.data_.now) d among in
      const_unspelled (DataSegments, seen.0) offset
      (subst (λ (o : Option DataValue). Contains (consts_by (λ (x : abstract.DataSegment). data_kind_consts x.kind) (option_map data_of o)) offset) (sym seen.1) (subst (λ (k : abstract.DataKind). Contains (data_kind_consts k) offset) (sym is) (Contains-head offset [])))
      unspelled

  -- the type of an imported item
  thing_exact : (s : Space) (n : ℕ) (thing : Thing s) → look V s n ≡ Some thing → is_exact_thing s thing ≡ true → HasUnspelled c V
  thing_exact Tables n t at e =
      ExactType (Tables, n) t.ty.element.heap
      (subst (λ (o : Option abstract.Table). Contains (heaps_by (λ (x : abstract.Table). x.ty.element.heap ∷ []) o) t.ty.element.heap) (sym at) (Contains-head t.ty.element.heap []))
      (exact_heap t.ty.element.heap e)
  thing_exact Globals n g at e =
      let h = exact_value g.ty.value e in
      ExactType (Globals, n) h.0 (subst (λ (o : Option abstract.Global). Contains (heaps_by (λ (x : abstract.Global). val_heaps x.ty.value) o) h.0) (sym at) h.1.0) h.1.1
  thing_exact Functions n f at e = absurd (none_there e)
  thing_exact Memories n m at e = absurd (none_there e)
  thing_exact Tags n t at e = absurd (none_there e)
  thing_exact Types n t at e = absurd (none_there e)
  thing_exact Elements n x at e = absurd (none_there e)
  thing_exact DataSegments n d at e = absurd (none_there e)

  import_exact : (x : abstract.Import) → ImportIsExact V x → HasUnspelled c V
  import_exact x (thing, at, e) = thing_exact x.item.0 x.item.1 thing at e

  -- what isn't writable
  pub unspelled : (HasDead V → ⊥) → HasUnspellable p (features_of c) → HasUnspelled c V
  unspelled lives (AnImport i x at is_exact) = import_exact x is_exact
  unspelled lives (ABody body_cant) = not_formed lives body_cant
  unspelled lives (AType type_exact) = exact type_exact
  unspelled lives (ATable t among is) = table_unspelled t among is
  unspelled lives (AGlobal g among is) = global_unspelled g among is
  unspelled lives (AnElement e among is) = element_unspelled e among is
  unspelled lives (ASegment d among is) = segment_unspelled d among is

-- ---- imports that aren't written

-- the type of an imported item is one that no bytes spell
pub imports_refused : (p : Parts) (job : Task) (X : Type 0) (e : Error) → RefusesImports (parts_view p) e → RefusesItems {X = X} p job (Err e)
imports_refused p job X (errors.Memory m) r = tt
imports_refused p job X errors.NotWritable (i, (x, (at, is_exact))) = AnImport i x at is_exact
imports_refused p job X _ r = absurd r
