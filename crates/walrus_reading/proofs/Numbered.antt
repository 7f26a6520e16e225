-- Each index leads to the item of its number, once each space has as many indices as it has items; and so does all that sections name.
use Rattle.wasm_frames.specs.Record as wire
use Rattle.std.proofs.Common.{◌≡◌, ℕ, ◌+◌, ◌<◌, List, [], ◌++◌, length, map, get_or, refl, sym, ap, subst, ◌∙◌, arith, length-append}
use Rattle.std.specs.Prelude.{All, Option, Some, slice_get, nat_lt, unwrap_or}
use Rattle.std.specs.List.{range_with_len}
use Rattle.std.proofs.lemmas.List.{length-map}
use mathlib.Core.Path.{fun_ext}
use Rattle.wasm_entries.specs.declared.record.RawDesc.TheVariants as descs
use Rattle.wasm_entries.specs.Record as entries
use Rattle.wasm_wire.specs.Context as context
use Rattle.wasm_wire.specs.Context.{context_of, counts_of, desc_global}
use Rattle.wasm_wire.specs.Indices.{IndicesHold}
use Rattle.walrus_base.specs.Operators.{Space, Types, Functions, Tables, Memories, Tags, Globals, Elements, DataSegments}
use Rattle.walrus_base.specs.TypeDef.{TypeDef}
use Rattle.walrus_code.specs.Indices.{places_in, ids_at}
use Rattle.walrus_code.specs.Names.{Lookup}
use Rattle.walrus_code.specs.declared.indices.IndicesToIds.{IndicesToIds}
use Rattle.walrus_groups.specs.Groups.{sub_of, types_from}
use Rattle.walrus_groups.specs.Reading.{TypesInPlace}
use Rattle.walrus_model.specs.Abstract as abstract
use Rattle.walrus_model.specs.Reads.{below, declared}
use Rattle.walrus_model.specs.Sections.{element_of, elements_of, function_types, global_of, globals_of, global_type_of, imported, imported_function, imported_global, imported_memory, imported_table, imported_tag, imported_type, memory_of, memories_of, memory_type_of, table_of, tables_of, table_type_of, tag_of, tags_of}
use Rattle.walrus_base.proofs.Lookups.{as_long}
use Rattle.walrus_model.proofs.PlacedTypes.{own_index, below_by}
use Rattle.walrus_theorem.proofs.Images.{function_types_look, globals_look, memories_look, tables_look, tags_look, types_look}
use Rattle.walrus_items.specs.Functions.{functions}
use Rattle.walrus_items.specs.Globals.{globals}
use Rattle.walrus_items.specs.Memories.{memories}
use Rattle.walrus_items.specs.Tables.{tables}
use Rattle.walrus_items.specs.Tags.{tags}
use Rattle.walrus_contents.specs.declared.parts.Contents.{Contents}
use Rattle.walrus_reading.specs.Held.{HoldsGlobal, HoldsImportedFunction, HoldsMemory, HoldsTable, HoldsTag, none_kept}
use Rattle.walrus_reading.specs.Imported.{HoldsImports}
use Rattle.walrus_reading.specs.Placed.{AllPlaced}
use Rattle.walrus_reading.specs.Stays.{AllStay, AreNumbered, DescStays}
use Rattle.walrus_reading.proofs.Rows.{placed_length}
use Rattle.walrus_reading.proofs.StaysByRules.{all_stay, desc_stays}
use Rattle.walrus_theorem.proofs.BodiesBack.{as_many_imported as types_many}

-- ---- the look-up of indices is what sections declare

-- as many indices of each space as items are declared
pub record HasIndices (r : wire.Module) (places : Space → List ℕ) : Type 0 where
  pub types : places Types ≡ range_with_len 0 (length (types_from 0 r.types))
  pub functions : places Functions ≡ range_with_len 0 (length (function_types r))
  pub tables : places Tables ≡ range_with_len 0 (length (tables_of r))
  pub memories : places Memories ≡ range_with_len 0 (length (memories_of r))
  pub tags : places Tags ≡ range_with_len 0 (length (tags_of r))
  pub globals : places Globals ≡ range_with_len 0 (length (globals_of r))
  pub elements : places Elements ≡ range_with_len 0 (length (elements_of r))
  pub data_segments : places DataSegments ≡ range_with_len 0 (unwrap_or r.data_count 0)

in_place : (places : Space → List ℕ) (space : Space) (n i : ℕ) → places space ≡ range_with_len 0 n → slice_get (places space) i ≡ below n i
in_place places space n i numbered = ap (λ l. slice_get l i) numbered ∙ below_by n i (nat_lt i n) refl

-- the items at these places by their indices
abbrev found : (Space → List ℕ) → Lookup
found places space i = slice_get (places space) i

module _ (r : wire.Module) (places : Space → List ℕ) (h : HasIndices r places) where
  name_at : (space : Space) (i : ℕ) → slice_get (places space) i ≡ declared r space i
  name_at Types i = in_place places Types (length (types_from 0 r.types)) i h.types
  name_at Functions i = in_place places Functions (length (function_types r)) i h.functions
  name_at Tables i = in_place places Tables (length (tables_of r)) i h.tables
  name_at Memories i = in_place places Memories (length (memories_of r)) i h.memories
  name_at Tags i = in_place places Tags (length (tags_of r)) i h.tags
  name_at Globals i = in_place places Globals (length (globals_of r)) i h.globals
  name_at Elements i = in_place places Elements (length (elements_of r)) i h.elements
  name_at DataSegments i = in_place places DataSegments (unwrap_or r.data_count 0) i h.data_segments

  pub all_named : found places ≡ declared r
  all_named = fun_ext (λ space. fun_ext (name_at space))

-- no types, and no indices of types
pub none_in_place : (indices : IndicesToIds) (slots : List (Option TypeDef)) → places_in indices Types ≡ [] → slots ≡ [] → TypesInPlace indices slots
none_in_place indices slots none empty = none ∙ ap (λ (l : List (Option TypeDef)). range_with_len 0 (length l)) (sym empty)

-- ---- how many items are declared: those that imports brought, and those that sections define

counted : {X Y T : Type 0} (R : ℕ → X → T → Type 0) (brought : List X) (slots : List T) (make : Y → X) (ys : List Y) (first own : ℕ) → AllPlaced R 0 brought slots → first ≡ length slots → own ≡ length ys → first + own ≡ length (brought ++ map make ys)
counted R brought slots make ys first own held at same = omega (arith, at, placed_length R 0 brought slots held, same, length-append brought (map make ys), length-map ys make)

module _ (r : wire.Module) (m : Contents) (h : HoldsImports r.imports m) (first own : ℕ) where
  pub functions_counted : first ≡ length (functions m.funcs) → own ≡ length r.functions → first + own ≡ length (function_types r)
  functions_counted at same =
      let brought = imported imported_function 0 r.imports in
      omega (arith, at, placed_length HoldsImportedFunction 0 brought (functions m.funcs) h.functions, same, length-append (imported imported_type 0 r.imports) r.functions, types_many 0 r.imports)

  pub tables_counted : first ≡ length (tables m.tables) → own ≡ length r.tables → first + own ≡ length (tables_of r)
  tables_counted at same = counted (HoldsTable none_kept) (imported imported_table 0 r.imports) (tables m.tables) table_of r.tables first own h.tables at same

  pub memories_counted : first ≡ length (memories m.memories) → own ≡ length r.memories → first + own ≡ length (memories_of r)
  memories_counted at same = counted (HoldsMemory none_kept) (imported imported_memory 0 r.imports) (memories m.memories) memory_of r.memories first own h.memories at same

  pub tags_counted : first ≡ length (tags m.tags) → own ≡ length r.tags → first + own ≡ length (tags_of r)
  tags_counted at same = counted HoldsTag (imported imported_tag 0 r.imports) (tags m.tags) tag_of r.tags first own h.tags at same

  pub globals_counted : first ≡ length (globals m.globals) → own ≡ length r.globals → first + own ≡ length (globals_of r)
  globals_counted at same = counted HoldsGlobal (imported imported_global 0 r.imports) (globals m.globals) global_of r.globals first own h.globals at same

-- no import brings element segments
pub elements_counted : (r : wire.Module) (own : ℕ) → own ≡ length r.elements → 0 + own ≡ length (elements_of r)
elements_counted r own e = omega (arith, e, length-map r.elements element_of)

-- nor data segments
pub data_counted : (own count : ℕ) → own ≡ count → 0 + own ≡ count
data_counted own count e = omega (arith, e)

-- ---- what sections name

numbered_by : (count n most : ℕ) → count ≡ most → n < most → below count n ≡ Some n
numbered_by count n most same lt = own_index count n (omega (arith, same, lt))

all_numbered : (m : wire.Module) → AreNumbered (declared m) (counts_of (context_of m))
all_numbered m =
    let c = context_of m in
    record {
      types = λ n lt. numbered_by (length (types_from 0 m.types)) n (length c.types) (as_long (λ (x : TypeDef). x.sub) sub_of (types_from 0 m.types) c.types (types_look m)) lt;
      functions = λ n lt. numbered_by (length (function_types m)) n (length c.functions) (as_long (λ (t : ℕ). t) (λ (t : ℕ). t) (function_types m) c.functions (function_types_look m)) lt;
      tables = λ n lt. numbered_by (length (tables_of m)) n (length c.tables) (as_long (λ (t : abstract.Table). t.ty) table_type_of (tables_of m) c.tables (tables_look m)) lt;
      memories = λ n lt. numbered_by (length (memories_of m)) n (length c.memories) (as_long (λ (y : abstract.Memory). y.ty) memory_type_of (memories_of m) c.memories (memories_look m)) lt;
      tags = λ n lt. numbered_by (length (tags_of m)) n (length c.tags) (as_long (λ (t : abstract.Tag). t.ty) (λ (t : ℕ). t) (tags_of m) c.tags (tags_look m)) lt;
      globals = λ n lt. numbered_by (length (globals_of m)) n (length c.globals) (as_long (λ (g : abstract.Global). g.ty) global_type_of (globals_of m) c.globals (globals_look m)) lt;
    }

-- where types have their indices, those that imports name lead to the types of their numbers
pub imports_stay : (m : wire.Module) (indices : IndicesToIds) → places_in indices Types ≡ range_with_len 0 (length (types_from 0 m.types)) → IndicesHold (counts_of (context_of m)) m → All (λ x. DescStays (ids_at indices) x.desc) m.imports
imports_stay m indices numbered h =
    let many : length (types_from 0 m.types) ≡ length (context_of m).types = as_long (λ (x : TypeDef). x.sub) sub_of (types_from 0 m.types) (context_of m).types (types_look m) in
    let at : (n : ℕ) → n < length (context_of m).types → ids_at indices Types n ≡ Some n =
    λ n lt. in_place (places_in indices) Types (length (types_from 0 m.types)) n numbered ∙ numbered_by (length (types_from 0 m.types)) n (length (context_of m).types) many lt in
    λ i d lt. desc_stays (ids_at indices) (length (context_of m).types) at (get_or m.imports i d).desc (h.imports i d lt)

-- where indices lead to what is declared, each leads to an item of its number
pub stay : (names : Lookup) (m : wire.Module) → names ≡ declared m → IndicesHold (counts_of (context_of m)) m → AllStay names m
stay names m same h =
    let brought = context.imported desc_global m.imports in
    let counted : length brought + length m.globals ≡ length (context_of m).globals =
    omega (arith, length-append brought (map (λ (g : entries.Global). g.ty) m.globals), length-map m.globals (λ (g : entries.Global). g.ty)) in
    subst (λ (l : Lookup). AllStay l m) (sym same) (all_stay (declared m) (counts_of (context_of m)) (all_numbered m) m counted h)
