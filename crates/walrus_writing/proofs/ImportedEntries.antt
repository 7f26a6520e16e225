-- An import's entry, from the description of its item; and the entries of all imports, one behind another.
use Rattle.std.proofs.Common.{◌≡◌, ℕ, List, [], ◌∷◌, ◌++◌, map, append_assoc, sym, ap, ◌∙◌, subst, Some}
use Rattle.std.proofs.lemmas.List.{append-nil}
use Rattle.std.specs.Prelude.{Ok, Err, Result, option_map}
use Rattle.std.specs.List.{AllZip}
use Rattle.std.specs.Str.{IsUtf8}
use Rattle.wasm_entries.specs.Record as entries
use Rattle.wasm_entries.specs.Record.{import_entry}
use Rattle.wasm_entries.specs.declared.record.RawDesc.{RawDesc}
use Rattle.wasm_entries.specs.declared.record.RawImport.{RawImport}
use Rattle.walrus_base.specs.Arena.{item_at}
use Rattle.walrus_base.specs.Operators.{Functions, Globals, Memories, Tables, Tags}
use Rattle.walrus_code.specs.Names.{Lookup}
use Rattle.walrus_code.specs.declared.error.IrError.{IrError}
use Rattle.walrus_code.specs.declared.error.IrError.TheVariants as Ir
use Rattle.walrus_contents.specs.View as seen
use Rattle.walrus_contents.specs.View.{parts_view}
use Rattle.walrus_contents.specs.declared.parts.Parts.{Parts}
use Rattle.walrus_items.specs.Globals.{GlobalValue, globals}
use Rattle.walrus_items.specs.Memories.{MemoryValue, memories}
use Rattle.walrus_items.specs.Tables.{TableValue, tables}
use Rattle.walrus_items.specs.Tags.{TagValue, tags}
use Rattle.walrus_items.specs.Functions.{FunctionValue, functions}
use Rattle.walrus_items.specs.Imports.{ImportValue}
use Rattle.walrus_model.specs.Abstract.{Abstract, Import}
use Rattle.walrus_items.specs.Errors.{error_of_ir}
use Rattle.walrus_writing.specs.Imported.{ImportsIndexed, IndexesDesc, IndexesImport, IndexesItem, IsEntryAt, IsEntryOf, RefusesImports}
use Rattle.walrus_base.proofs.Turns.{map_snoc}

-- ---- the item at a place

module _ (names : Lookup) (p : Parts) (i : ℕ) (r : Result RawDesc IrError) where
  pub function_indexed : (f : FunctionValue) → item_at (functions p.funcs.now) i ≡ Some f → IndexesDesc names Functions (seen.function p.locals.now f) r → IndexesItem names (parts_view p) (Functions, i) r
  function_indexed f at h = record { thing = seen.function p.locals.now f; is = ap (option_map (seen.function p.locals.now)) at; indexed = h }

  pub table_indexed : (t : TableValue) → item_at (tables p.tables.now) i ≡ Some t → IndexesDesc names Tables (seen.table_of t) r → IndexesItem names (parts_view p) (Tables, i) r
  table_indexed t at h = record { thing = seen.table_of t; is = ap (option_map seen.table_of) at; indexed = h }

  pub memory_indexed : (m : MemoryValue) → item_at (memories p.memories.now) i ≡ Some m → IndexesDesc names Memories (seen.memory_of m) r → IndexesItem names (parts_view p) (Memories, i) r
  memory_indexed m at h = record { thing = seen.memory_of m; is = ap (option_map seen.memory_of) at; indexed = h }

  pub global_indexed : (g : GlobalValue) → item_at (globals p.globals.now) i ≡ Some g → IndexesDesc names Globals (seen.global_of g) r → IndexesItem names (parts_view p) (Globals, i) r
  global_indexed g at h = record { thing = seen.global_of g; is = ap (option_map seen.global_of) at; indexed = h }

  pub tag_indexed : (t : TagValue) → item_at (tags p.tags.now) i ≡ Some t → IndexesDesc names Tags (seen.tag_of t) r → IndexesItem names (parts_view p) (Tags, i) r
  tag_indexed t at h = record { thing = seen.tag_of t; is = ap (option_map seen.tag_of) at; indexed = h }

-- ---- one import

module _ (names : Lookup) (v : Abstract) (x : Import) where
  pub import_refused : (e : IrError) → IndexesItem names v x.item (Err e) → IndexesImport names v x (Err e)
  import_refused Ir.NoIndex h = (h.thing, h.is, h.indexed)
  import_refused Ir.NotWritable h = (h.thing, h.is, h.indexed)
  import_refused (Ir.Memory m) h = tt
  import_refused Ir.Malformed h = absurd h.indexed
  import_refused Ir.TooLarge h = absurd h.indexed

  pub import_written : (raw : RawImport) (w : entries.Import) → import_entry raw ≡ w → IndexesItem names v x.item (Ok w.desc) → w.from ≡ x.module_name → w.name ≡ x.name → IsUtf8 w.from → IsUtf8 w.name → IsEntryOf names v x (import_entry raw)
  import_written raw w held h from name from_text name_text = subst (IsEntryOf names v x) (sym held) (record {
    from = from;
    name = name;
    thing = h.thing;
    is = h.is;
    describes = h.indexed;
    stands = record { from = from_text; name = name_text; desc = h.indexed.stands };
  })

-- ---- all of them

module _ (names : Lookup) (v : Abstract) where
  -- what the entries of those left are completes the entries of all
  abbrev pub Completes : List entries.Import → (left all : List ℕ) → Type 0
  Completes done left all = (ws : List entries.Import) → AllZip (IsEntryAt names v) left ws → AllZip (IsEntryAt names v) all (done ++ ws)

  pub completes_begins : (left all : List ℕ) → left ≡ all → Completes [] left all
  completes_begins left all same ws h = subst (λ (l : List ℕ). AllZip (IsEntryAt names v) l ws) same h

  pub completes_ends : (done : List entries.Import) (left : List (ℕ × ImportValue)) (all : List ℕ) → left ≡ [] → Completes done (map (λ e. e.0) left) all → AllZip (IsEntryAt names v) all done
  completes_ends done left all none more =
      subst (AllZip (IsEntryAt names v) all) (append-nil done) (more [] (subst (λ (l : List (ℕ × ImportValue)). AllZip (IsEntryAt names v) (map (λ e. e.0) l) []) (sym none) tt))

  module _ (left after : List (ℕ × ImportValue)) (e : ℕ × ImportValue) (all : List ℕ) (step : left ≡ e ∷ after) where
    pub completes_goes : (raws : List RawImport) (one : RawImport) → v.imports e.0 ≡ Some (seen.import_of e.1) → IsEntryOf names v (seen.import_of e.1) (import_entry one)
        → Completes (map import_entry raws) (map (λ e. e.0) left) all → Completes (map import_entry (raws ++ one ∷ [])) (map (λ e. e.0) after) all
    completes_goes raws one at entry more ws h =
        let here : IsEntryAt names v e.0 (import_entry one) = record { value = seen.import_of e.1; is = at; entry = entry } in
        let zip : AllZip (IsEntryAt names v) (map (λ e. e.0) left) (import_entry one ∷ ws) = subst (λ (l : List (ℕ × ImportValue)). AllZip (IsEntryAt names v) (map (λ e. e.0) l) (import_entry one ∷ ws)) (sym step) (here, h) in
        subst (AllZip (IsEntryAt names v) all)
        (sym (append_assoc (map import_entry raws) (import_entry one ∷ []) ws) ∙ ap (λ (l : List entries.Import). l ++ ws) (sym (map_snoc import_entry raws one)))
        (more (import_entry one ∷ ws) zip)

  pub one_refused : (p : ℕ) (x : Import) (e : IrError) → v.imports p ≡ Some x → ImportsIndexed names v → IndexesImport names v x (Err e) → RefusesImports v (error_of_ir e)
  one_refused p x Ir.NoIndex at indexed lacks = absurd (indexed p x at lacks)
  one_refused p x Ir.NotWritable at indexed exact = (p, (x, (at, exact)))
  one_refused p x (Ir.Memory m) at indexed h = tt
  one_refused p x Ir.Malformed at indexed h = absurd h
  one_refused p x Ir.TooLarge at indexed h = absurd h
