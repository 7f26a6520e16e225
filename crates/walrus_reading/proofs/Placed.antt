-- What is held place by place: what is added, and that it sits at its own ids.
use Rattle.std.proofs.Common.{◌≡◌, ℕ, zero, suc, Bool, ◌+◌, ◌<◌, ◌≤◌, List, [], ◌∷◌, ◌++◌, length, map, flat_map, take, get_or, refl, sym, ap, subst, ◌∙◌, arith, length-append}
use Rattle.std.specs.Prelude.{Option, Some, None, zip}
use Rattle.std.specs.List.{range_with_len}
use Rattle.std.proofs.lemmas.List.{take_more, take_all, map-append}
use Rattle.walrus_base.specs.Arena.{item_at}
use Rattle.walrus_base.specs.Id.{place}
use Rattle.walrus_base.specs.Types.{ValType}
use Rattle.walrus_base.specs.declared.id.Id.{Id}
use Rattle.walrus_base.specs.declared.keys.LocalKey.{LocalKey}
use Rattle.walrus_base.specs.Locals.{locals, local_place, new_local}
use Rattle.walrus_base.specs.TypeDef.{TypeDef}
use Rattle.walrus_base.specs.Value.{val_type}
use Rattle.walrus_base.specs.declared.locals.Local.{Local}
use Rattle.walrus_base.specs.declared.value.ValType.{ValType as DeclaredValType}
use Rattle.walrus_bodies.specs.BodyRead.{new_locals}
use Rattle.walrus_bodies.specs.declared.features.Features.{Features}
use Rattle.walrus_items.specs.Data.{DataValue, data_segments}
use Rattle.walrus_items.specs.Elements.{ElementValue, elements}
use Rattle.walrus_items.specs.Exports.{ExportValue, exports}
use Rattle.walrus_items.specs.Functions.{FunctionValue, functions}
use Rattle.walrus_items.specs.declared.function_kind.FunctionKind.TheVariants as variants
use Rattle.walrus_items.specs.Imports.{ImportValue, imports}
use Rattle.walrus_items.specs.Globals.{GlobalValue, globals}
use Rattle.walrus_items.specs.Memories.{MemoryValue, memories}
use Rattle.walrus_items.specs.Tables.{TableValue, tables}
use Rattle.walrus_items.specs.Tags.{TagValue, tags}
use Rattle.walrus_model.specs.Abstract.{DataSegment, Element, Function, Global, Import, Memory, Table, Tag}
use Rattle.walrus_model.specs.Sections.{Said, imported, imported_function, imports_after, types_of, data_segments_of, elements_of, globals_of, memories_of, tables_of, tags_of}
use Rattle.walrus_reading.specs.Held.{HoldsData, HoldsElement, HoldsGlobal, HoldsImport, HoldsImportedFunction, HoldsMemory, HoldsTable, HoldsTag, memory_keeps, table_keeps}
use Rattle.walrus_base.proofs.Standing.{some_inj}
use Rattle.walrus_contents.specs.declared.parts.Contents.{Contents}
use Rattle.walrus_base.proofs.Lookups.{heads}
use Rattle.walrus_reading.proofs.Rows.{nothing_more, placed_own, placed_push}
use Rattle.walrus_reading.specs.Parsed.{ItemsAtOwnIds}
use Rattle.walrus_reading.specs.Placed.{AllPlaced}
use Rattle.walrus_reading.specs.Taken.{AddsExport, HasTaken, HoldsExport, HoldsFunction, HoldsFunctions, HoldsLocal, HoldFunctions, locals_said}
use Rattle.wasm_entries.specs.Record as entries
use Rattle.wasm_entries.specs.declared.record.RawExport.{RawExport}
use Rattle.wasm_frames.specs.Record as wire
use Rattle.walrus_reading.proofs.Becoming.{one_later}

-- ---- locals

pub new_placed : (k : ℕ) (ids : List (Id LocalKey)) (types : List DeclaredValType) → map place ids ≡ range_with_len k (length types) → AllPlaced HoldsLocal k (map val_type types) (new_locals ids types)
new_placed k [] [] e = tt
new_placed k [] (t ∷ types) e = absurd cc
new_placed k (i ∷ ids) [] e = absurd cc
new_placed k (i ∷ ids) (t ∷ types) e =
    let parts = heads (place i) k (map place ids) (range_with_len (k + 1) (length types)) e in
    (record { local = new_local i t; is = refl; own_id = parts.0; typed = refl; unnamed = refl }, new_placed (k + 1) ids types parts.1)

-- ---- functions

module _ (types : ℕ → Option TypeDef) where
  -- one more function, whose locals stand behind
  pub held_push : (id first : ℕ) (ps : List (ℕ × Said)) (slots : List (Option FunctionValue)) (p : ℕ × Said) (slot : Option FunctionValue) (at behind : ℕ) → at ≡ id + length slots → behind ≡ first + length (flat_map (locals_said types) ps)
      → HoldFunctions types id first ps slots → HoldsFunction types at behind p slot → HoldFunctions types id first (ps ++ p ∷ []) (slots ++ slot ∷ [])
  held_push id first [] [] p slot at behind e f h one =
      let own : at ≡ id = omega (arith, e) in
      let from : behind ≡ first = f ∙ sym (nothing_more first) in
      (subst (λ (n : ℕ). HoldsFunction types n first p slot) own (subst (λ (n : ℕ). HoldsFunction types at n p slot) from one), tt)
  held_push id first [] (s ∷ slots) p slot at behind e f h one = absurd h
  held_push id first (q ∷ ps) [] p slot at behind e f h one = absurd h
  held_push id first (q ∷ ps) (s ∷ slots) p slot at behind e f h one =
      let long = length-append (locals_said types q) (flat_map (locals_said types) ps) in
      (h.0, held_push (id + 1) (first + length (locals_said types q)) ps slots p slot at behind (omega (arith, e)) (omega (arith, f, long)) h.1 one)

  own_function : (id : ℕ) (first : ℕ) (p : ℕ × Said) (slot : Option FunctionValue) (x : FunctionValue) → HoldsFunction types id first p slot → slot ≡ Some x → x.id ≡ id
  own_function id first p slot x h e = ap (λ (f : FunctionValue). f.id) (some_inj x (record { id = id; kind = variants.Local h.local; name = None }) (sym e ∙ h.is))

  functions_own : (id first : ℕ) (ps : List (ℕ × Said)) (slots : List (Option FunctionValue)) → HoldFunctions types id first ps slots → (i : ℕ) (x : FunctionValue) → item_at slots i ≡ Some x → x.id ≡ id + i
  functions_own id first [] [] h i x e = absurd cc
  functions_own id first [] (s ∷ slots) h i x e = absurd h
  functions_own id first (p ∷ ps) [] h i x e = absurd h
  functions_own id first (p ∷ ps) (s ∷ slots) h zero x e = own_function id first p s x h.0 e ∙ nothing_more id
  functions_own id first (p ∷ ps) (s ∷ slots) h (suc i) x e = functions_own (id + 1) (first + length (locals_said types p)) ps slots h.1 i x e ∙ one_later id i

-- ---- exports

-- one more export
pub adds_export : (xs : List entries.Export) (old new : List (Option ExportValue)) (e : entries.Export) → AllPlaced HoldsExport 0 xs old → AddsExport e old new → AllPlaced HoldsExport 0 (xs ++ e ∷ []) new
adds_export xs old new e h (slot, (push, holds)) = subst (λ (l : List (Option ExportValue)). AllPlaced HoldsExport 0 (xs ++ e ∷ []) l) (sym push) (placed_push HoldsExport xs old e slot h holds)

module _ (raw : List RawExport) where
  pub no_exports : (all : List (Option ExportValue)) → all ≡ [] → AllPlaced HoldsExport 0 (map entries.export_entry (take 0 raw)) all
  no_exports all none = subst (λ (l : List (Option ExportValue)). AllPlaced HoldsExport 0 [] l) (sym none) tt

  pub one_more_export : (i : ℕ) (d : RawExport) (old new : List (Option ExportValue)) → i < length raw → AllPlaced HoldsExport 0 (map entries.export_entry (take i raw)) old → AddsExport (entries.export_entry (get_or raw i d)) old new
      → AllPlaced HoldsExport 0 (map entries.export_entry (take (i + 1) raw)) new
  one_more_export i d old new lt before adds =
      let v : RawExport = get_or raw i d in
      let more : map entries.export_entry (take (i + 1) raw) ≡ map entries.export_entry (take i raw) ++ entries.export_entry v ∷ [] = ap (map entries.export_entry) (take_more raw i d lt) ∙ map-append entries.export_entry (take i raw) (v ∷ []) in
      subst (λ (l : List entries.Export). AllPlaced HoldsExport 0 l new) (sym more) (adds_export (map entries.export_entry (take i raw)) old new (entries.export_entry v) before adds)

  pub all_exports : (i : ℕ) (all : List (Option ExportValue)) → length raw ≤ i → AllPlaced HoldsExport 0 (map entries.export_entry (take i raw)) all → AllPlaced HoldsExport 0 (map entries.export_entry raw) all
  all_exports i all le h = subst (λ (l : List RawExport). AllPlaced HoldsExport 0 (map entries.export_entry l) all) (take_all i raw le) h

-- ---- all

own_local : (n : ℕ) (t : ValType ℕ) (x : Local) → HoldsLocal n t (Some x) → local_place x ≡ n
own_local n t x h = ap local_place (some_inj x h.local h.is) ∙ h.own_id

own_export : (n : ℕ) (e : entries.Export) (x : ExportValue) → HoldsExport n e (Some x) → x.id ≡ n
own_export n e x h = ap (λ (v : ExportValue). v.id) (some_inj x h.value h.is) ∙ h.own_id

own_memory : (kept : ℕ → ℕ → Bool) (n : ℕ) (a : Memory) (x : MemoryValue) → HoldsMemory kept n a (Some x) → x.id ≡ n
own_memory kept n a x h = ap (λ (v : MemoryValue). v.id) (some_inj x h.value h.is) ∙ h.own_id

own_table : (kept : ℕ → ℕ → Bool) (n : ℕ) (a : Table) (x : TableValue) → HoldsTable kept n a (Some x) → x.id ≡ n
own_table kept n a x h = ap (λ (v : TableValue). v.id) (some_inj x h.value h.is) ∙ h.own_id

own_tag : (n : ℕ) (a : Tag) (x : TagValue) → HoldsTag n a (Some x) → x.id ≡ n
own_tag n a x h = ap (λ (v : TagValue). v.id) (some_inj x h.value h.is) ∙ h.own_id

own_global : (n : ℕ) (a : Global) (x : GlobalValue) → HoldsGlobal n a (Some x) → x.id ≡ n
own_global n a x h = ap (λ (v : GlobalValue). v.id) (some_inj x h.value h.is) ∙ h.own_id

own_import : (n : ℕ) (a : Import) (x : ImportValue) → HoldsImport n a (Some x) → x.id ≡ n
own_import n a x h = ap (λ (v : ImportValue). v.id) (some_inj x h.value h.is) ∙ h.own_id

own_imported : (n : ℕ) (a : Function) (x : FunctionValue) → HoldsImportedFunction n a (Some x) → x.id ≡ n
own_imported n a x h = ap (λ (v : FunctionValue). v.id) (some_inj x h.value h.is) ∙ h.own_id

own_element : (n : ℕ) (a : Element) (x : ElementValue) → HoldsElement n a (Some x) → x.id ≡ n
own_element n a x h = ap (λ (v : ElementValue). v.id) (some_inj x h.value h.is) ∙ h.own_id

own_data : (n : ℕ) (a : DataSegment) (x : DataValue) → HoldsData n a (Some x) → x.id ≡ n
own_data n a x h = ap (λ (v : DataValue). v.id) (some_inj x h.value h.is) ∙ h.own_id

from_zero : (n i : ℕ) → n ≡ 0 + i → n ≡ i
from_zero n i e = omega (arith, e)

-- what stands behind others sits at its own id where they do
own_behind : (k : ℕ) (front back : List (Option FunctionValue)) → ((i : ℕ) (x : FunctionValue) → item_at front i ≡ Some x → x.id ≡ k + i) → ((i : ℕ) (x : FunctionValue) → item_at back i ≡ Some x → x.id ≡ k + length front + i)
    → (i : ℕ) (x : FunctionValue) → item_at (front ++ back) i ≡ Some x → x.id ≡ k + i
own_behind k [] back first behind i x e = let same : k + 0 + i ≡ k + i = omega arith in behind i x e ∙ same
own_behind k (s ∷ front) back first behind zero x e = first zero x e
own_behind k (s ∷ front) back first behind (suc i) x e =
    own_behind (k + 1) front back (λ j y at. first (suc j) y at ∙ sym (one_later k j))
    (λ j y at. let next : k + suc (length front) + j ≡ k + 1 + length front + j = omega arith in behind j y at ∙ next) i x e ∙ one_later k i

all_functions_own : (types : ℕ → Option TypeDef) (brought : List Function) (said : List (ℕ × Said)) (slots : List (Option FunctionValue)) → HoldsFunctions types brought said slots → (i : ℕ) (x : FunctionValue) → item_at slots i ≡ Some x → x.id ≡ i
all_functions_own types brought said slots h i x e =
    from_zero x.id i (own_behind 0 h.front h.own.added (placed_own (λ (v : FunctionValue). v.id) HoldsImportedFunction own_imported 0 brought h.front h.brings)
    (λ j y at. let start : length h.front + j ≡ 0 + length h.front + j = omega arith in functions_own types (length h.front) 0 said h.own.added h.own.held j y at ∙ start)
    i x (sym (ap (λ (l : List (Option FunctionValue)). item_at l i) h.own.behind) ∙ e))

pub own_ids : (c : Features) (r : wire.Module) (m : Contents) → HasTaken c r m → ItemsAtOwnIds m
own_ids c r m t = record {
  functions = all_functions_own (types_of r) (imported imported_function 0 r.imports) (zip r.functions t.bodies) (functions m.funcs) t.functions;
  exports = λ i x e. from_zero x.id i (placed_own (λ (v : ExportValue). v.id) HoldsExport own_export 0 r.exports (exports m.exports) t.exports i x e);
  locals = λ i x e. from_zero (local_place x) i (placed_own local_place HoldsLocal own_local 0 (flat_map (locals_said (types_of r)) (zip r.functions t.bodies)) (locals m.locals) t.locals i x e);
  imports = λ i x e. from_zero x.id i (placed_own (λ (v : ImportValue). v.id) HoldsImport own_import 0 (imports_after [] r.imports) (imports m.imports) t.imports i x e);
  tables = λ i x e. from_zero x.id i (placed_own (λ (v : TableValue). v.id) (HoldsTable (table_keeps (elements_of r))) (own_table (table_keeps (elements_of r))) 0 (tables_of r) (tables m.tables) t.tables i x e);
  memories = λ i x e. from_zero x.id i (placed_own (λ (v : MemoryValue). v.id) (HoldsMemory (memory_keeps (data_segments_of r))) (own_memory (memory_keeps (data_segments_of r))) 0 (memories_of r) (memories m.memories) t.memories i x e);
  tags = λ i x e. from_zero x.id i (placed_own (λ (v : TagValue). v.id) HoldsTag own_tag 0 (tags_of r) (tags m.tags) t.tags i x e);
  globals = λ i x e. from_zero x.id i (placed_own (λ (v : GlobalValue). v.id) HoldsGlobal own_global 0 (globals_of r) (globals m.globals) t.globals i x e);
  elements = λ i x e. from_zero x.id i (placed_own (λ (v : ElementValue). v.id) HoldsElement own_element 0 (elements_of r) (elements m.elements) t.elements i x e);
  data_segments = λ i x e. from_zero x.id i (placed_own (λ (v : DataValue). v.id) HoldsData own_data 0 (data_segments_of r) (data_segments m.data_) t.data_segments i x e);
}
