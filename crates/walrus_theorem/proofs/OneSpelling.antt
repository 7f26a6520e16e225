-- A module has one text.
use Rattle.std.proofs.Common.{◌≡◌, ℕ, Bool, List, [], length, map, refl, sym, ap, ◌∙◌}
use Rattle.std.specs.Prelude.{Option, Some, None, All, zip, slice_get, if◌then◌else◌}
use Rattle.wasm_entries.specs.Record as entries
use Rattle.wasm_entries.specs.Spelling.{ElementStands, DataStands, TableStands, GlobalStands}
use Rattle.wasm_frames.specs.Record as wire
use Rattle.walrus_base.specs.Types.{ValType}
use Rattle.walrus_base.specs.Operators.{Types, Functions, Tables, Memories, Tags, Globals, Elements, DataSegments}
use Rattle.walrus_model.specs.BlockHandlers.{params_of}
use Rattle.walrus_model.specs.Groups.{types_from}
use Rattle.walrus_model.specs.Abstract.{Abstract, Subject, TheModule, AnItem, ALocal, Memory, Tag}
use Rattle.walrus_theorem.specs.Namings.{is_in_range, names_given, names_in_range}
use Rattle.walrus_model.specs.Sections.{imports_after, function_with, table_of, memory_of, tag_of, global_of, element_of, data_of, export_of}
use Rattle.walrus_theorem.specs.Sections.{items_of, module_of}
use Rattle.walrus_theorem.specs.Text.{Text, said, namings_of, said_by}
use Rattle.walrus_theorem.specs.Spelling.{IsChosen, IsCount, IsSpelling, IsSpelledAs, written_as, SpelledOnce}
use Rattle.walrus_model.proofs.OneGroup.{one_grouping}
use Rattle.walrus_model.proofs.OneList.{got_same, one_map, told_map}
use Rattle.walrus_model.proofs.OneEntry.{raw_table, table_back, raw_memory, raw_global, global_back, raw_export, export_back, raw_data, data_back}
use Rattle.walrus_theorem.proofs.OneElement.{ElementGood, one_element}
use Rattle.walrus_theorem.proofs.OneImport.{OneImports, one_imports}
use Rattle.walrus_theorem.proofs.OneNaming.{one_names}
use Rattle.walrus_theorem.proofs.OneBody.{one_functions}
use Rattle.walrus_theorem.proofs.OneSections.{laid, laid_out, later_none}
use Rattle.walrus_theorem.proofs.OneCustom.{one_customs}
use Rattle.walrus_theorem.proofs.OneStanding.{lists_stand}

-- ---- what a text says, by its lists

abbrev told_items : Text → Abstract
told_items t = items_of (laid t) (map said t.bodies) t.producers

abbrev pub told : Text → Abstract
told t = module_of (laid t) (map said t.bodies) t.producers (namings_of t.names)

pub as_told : (t : Text) → said_by t ≡ told t
as_told t = ap (λ (m : wire.Module). module_of m (map said t.bodies) t.producers (namings_of t.names)) (laid_out t)

-- ---- names: what is in range doesn't turn on names

in_range : (t : Text) (x : Subject) → is_in_range (told t) x ≡ is_in_range (told_items t) x
in_range t TheModule = refl
in_range t (AnItem (Types, i)) = refl
in_range t (AnItem (Functions, i)) = refl
in_range t (AnItem (Tables, i)) = refl
in_range t (AnItem (Memories, i)) = refl
in_range t (AnItem (Tags, i)) = refl
in_range t (AnItem (Globals, i)) = refl
in_range t (AnItem (Elements, i)) = refl
in_range t (AnItem (DataSegments, i)) = refl
in_range t (ALocal f x) = refl

pub names_told : (n : Abstract) (t : Text) → n ≡ told t → (x : Subject) → names_in_range n (namings_of t.names) x ≡ n.named x
names_told n t e x =
    ap (λ (b : Bool). if b then names_given (namings_of t.names) x else []) (ap (λ (m : Abstract). is_in_range m x) e ∙ in_range t x)
    ∙ sym (ap (λ (m : Abstract). m.named x) e)

-- ---- the number of data segments

one_count : (n : Abstract) (segments others : ℕ) (a b : Option ℕ) → IsCount n segments a → IsCount n others b → segments ≡ others → a ≡ b
one_count n segments others None None h k e = refl
one_count n segments others None (Some c) h k e = absurd (h k.0)
one_count n segments others (Some c) None h k e = absurd (k h.0)
one_count n segments others (Some c) (Some d) h k e = ap Some (h.1 ∙ e ∙ sym k.1)

-- ---- two texts of one module

record Same (s t : Text) : Type 0 where
  dylinks : s.dylinks ≡ t.dylinks
  types : s.types ≡ t.types
  imports : s.imports ≡ t.imports
  functions : s.functions ≡ t.functions
  tables : s.tables ≡ t.tables
  memories : s.memories ≡ t.memories
  tags : s.tags ≡ t.tags
  globals : s.globals ≡ t.globals
  exports : s.exports ≡ t.exports
  start : s.start ≡ t.start
  elements : s.elements ≡ t.elements
  data_count : s.data_count ≡ t.data_count
  bodies : s.bodies ≡ t.bodies
  data_segments : s.data_segments ≡ t.data_segments
  names : s.names ≡ t.names
  producers : s.producers ≡ t.producers
  others : s.others ≡ t.others

one_text : (s t : Text) → Same s t → s ≡ t
one_text s t e =
    ap (λ x. record s { dylinks = x }) e.dylinks
    ∙ ap (λ x. record s { dylinks = t.dylinks; types = x }) e.types
    ∙ ap (λ x. record s { dylinks = t.dylinks; types = t.types; imports = x }) e.imports
    ∙ ap (λ x. record s { dylinks = t.dylinks; types = t.types; imports = t.imports; functions = x }) e.functions
    ∙ ap (λ x. record s { dylinks = t.dylinks; types = t.types; imports = t.imports; functions = t.functions; tables = x }) e.tables
    ∙ ap (λ x. record s { dylinks = t.dylinks; types = t.types; imports = t.imports; functions = t.functions; tables = t.tables; memories = x }) e.memories
    ∙ ap (λ x. record s { dylinks = t.dylinks; types = t.types; imports = t.imports; functions = t.functions; tables = t.tables; memories = t.memories; tags = x }) e.tags
    ∙ ap (λ x. record s { dylinks = t.dylinks; types = t.types; imports = t.imports; functions = t.functions; tables = t.tables; memories = t.memories; tags = t.tags; globals = x }) e.globals
    ∙ ap (λ x. record t { exports = x; start = s.start; elements = s.elements; data_count = s.data_count; bodies = s.bodies; data_segments = s.data_segments; names = s.names; producers = s.producers; others = s.others }) e.exports
    ∙ ap (λ x. record t { start = x; elements = s.elements; data_count = s.data_count; bodies = s.bodies; data_segments = s.data_segments; names = s.names; producers = s.producers; others = s.others }) e.start
    ∙ ap (λ x. record t { elements = x; data_count = s.data_count; bodies = s.bodies; data_segments = s.data_segments; names = s.names; producers = s.producers; others = s.others }) e.elements
    ∙ ap (λ x. record t { data_count = x; bodies = s.bodies; data_segments = s.data_segments; names = s.names; producers = s.producers; others = s.others }) e.data_count
    ∙ ap (λ x. record t { bodies = x; data_segments = s.data_segments; names = s.names; producers = s.producers; others = s.others }) e.bodies
    ∙ ap (λ x. record t { data_segments = x; names = s.names; producers = s.producers; others = s.others }) e.data_segments
    ∙ ap (λ x. record t { names = x; producers = s.producers; others = s.others }) e.names
    ∙ ap (λ x. record t { producers = x; others = s.others }) e.producers
    ∙ ap (λ x. record t { others = x }) e.others

elements_good : (n : Abstract) (es : List entries.Element) → All ElementStands es → All (λ (e : entries.Element). IsChosen n e.mode e.items) es → All (ElementGood n) es
elements_good n es h g = λ k d low. (h k d low, g k d low)

abbrev params : List entries.Group → ℕ → List (ValType ℕ)
params groups ty = params_of (slice_get (types_from 0 groups) ty)

module _ (n : Abstract) (s t : Text) (h : IsSpelling n s) (g : IsSpelling n t) where
  left : n ≡ told s
  left = h.says ∙ as_told s

  right : n ≡ told t
  right = g.says ∙ as_told t

  both : told s ≡ told t
  both = sym left ∙ right

  one_imported : OneImports s.imports t.imports (map (function_with (laid s)) (zip s.functions (map said s.bodies))) (map (function_with (laid t)) (zip t.functions (map said t.bodies))) (map table_of s.tables) (map table_of t.tables) (map memory_of s.memories) (map memory_of t.memories) (map global_of s.globals) (map global_of t.globals) (map tag_of s.tags) (map tag_of t.tags)
  one_imported = one_imports _ _ _ _ _ _ _ _ _ _ _ _ (lists_stand s h.stand).imports (lists_stand t g.stand).imports
      (got_same (imports_after [] s.imports) (imports_after [] t.imports) (ap (λ (m : Abstract). m.imports) both))
      (record {
        functions = got_same _ _ (ap (λ (m : Abstract). m.functions) both);
        tables = got_same _ _ (ap (λ (m : Abstract). m.tables) both);
        memories = got_same _ _ (ap (λ (m : Abstract). m.memories) both);
        globals = got_same _ _ (ap (λ (m : Abstract). m.globals) both);
        tags = got_same _ _ (ap (λ (m : Abstract). m.tags) both);
      })

  one_types : s.types ≡ t.types
  one_types = one_grouping 0 s.types t.types h.filled g.filled (lists_stand s h.stand).types (lists_stand t g.stand).types
      (got_same (types_from 0 s.types) (types_from 0 t.types) (ap (λ (m : Abstract). m.types) both))

  one_bodies : (s.functions ≡ t.functions) × (s.bodies ≡ t.bodies)
  one_bodies =
      let made : map (function_with (laid s)) (zip s.functions (map said s.bodies)) ≡ map (function_with (laid s)) (zip t.functions (map said t.bodies)) = one_imported.functions ∙ ap (λ (gs : List entries.Group). map (function_with (record (laid t) { types = gs })) (zip t.functions (map said t.bodies))) (sym one_types) in
      one_functions (params s.types) s.functions t.functions s.bodies t.bodies h.as_many_bodies g.as_many_bodies h.bodies g.bodies made

  one_tables : s.tables ≡ t.tables
  one_tables = one_map table_of raw_table TableStands table_back s.tables t.tables (lists_stand s h.stand).tables (lists_stand t g.stand).tables one_imported.tables

  one_memories : s.memories ≡ t.memories
  one_memories = one_map memory_of (λ (m : Memory). raw_memory m.ty) (λ m. Unit {0}) (λ m is. refl) s.memories t.memories (λ k d low. tt) (λ k d low. tt) one_imported.memories

  one_globals : s.globals ≡ t.globals
  one_globals = one_map global_of raw_global GlobalStands global_back s.globals t.globals (lists_stand s h.stand).globals (lists_stand t g.stand).globals one_imported.globals

  one_tags : s.tags ≡ t.tags
  one_tags = one_map tag_of (λ (x : Tag). x.ty) (λ x. Unit {0}) (λ x is. refl) s.tags t.tags (λ k d low. tt) (λ k d low. tt) one_imported.tags

  one_exports : s.exports ≡ t.exports
  one_exports = one_map export_of raw_export (λ e. Unit {0}) (λ e is. export_back e) s.exports t.exports (λ k d low. tt) (λ k d low. tt) (ap (λ (m : Abstract). m.exports) both)

  one_start : s.start ≡ t.start
  one_start = sym (later_none s.start) ∙ ap (λ (m : Abstract). m.start) both ∙ later_none t.start

  one_elements : s.elements ≡ t.elements
  one_elements = told_map element_of (ElementGood n) (one_element n) s.elements t.elements
      (elements_good n s.elements (lists_stand s h.stand).elements h.elements) (elements_good n t.elements (lists_stand t g.stand).elements g.elements)
      (got_same (map element_of s.elements) (map element_of t.elements) (ap (λ (m : Abstract). m.elements) both))

  one_data : s.data_segments ≡ t.data_segments
  one_data = one_map data_of raw_data DataStands data_back s.data_segments t.data_segments (lists_stand s h.stand).data_segments (lists_stand t g.stand).data_segments
      (got_same (map data_of s.data_segments) (map data_of t.data_segments) (ap (λ (m : Abstract). m.data_segments) both))

  one_others : (s.dylinks ≡ t.dylinks) × (s.others ≡ t.others)
  one_others = one_customs s t h.dylinks h.others g.dylinks g.others (ap (λ (m : Abstract). m.customs) both)

  all_same : Same s t
  all_same = record {
    dylinks = one_others.0;
    types = one_types;
    imports = one_imported.imports;
    functions = one_bodies.0;
    tables = one_tables;
    memories = one_memories;
    tags = one_tags;
    globals = one_globals;
    exports = one_exports;
    start = one_start;
    elements = one_elements;
    data_count = one_count n (length s.data_segments) (length t.data_segments) s.data_count t.data_count h.data_count g.data_count (ap length one_data);
    bodies = one_bodies.1;
    data_segments = one_data;
    names = one_names n s.names t.names h.names g.names (λ x. names_told n s left x ∙ sym (names_told n t right x));
    producers = ap (λ (m : Abstract). m.producers) both;
    others = one_others.1;
  }

pub spelled_once : SpelledOnce
spelled_once n s t h g = sym (one_text s t (all_same n s t h g))

-- and so one spelling
pub spelled_as_once : (n : Abstract) (bytes others : List ℕ) → IsSpelledAs n bytes → IsSpelledAs n others → others ≡ bytes
spelled_as_once n bytes others h g = g.written ∙ ap written_as (spelled_once n h.text g.text h.spells g.spells) ∙ sym h.written
