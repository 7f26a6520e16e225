-- The text that records make has as many bodies as functions, and all its entries stand.
use Rattle.wasm_entries.specs.Record as entries
use Rattle.std.proofs.Common.{◌≡◌, ℕ, ◌<◌, ◌^◌, List, [], ◌∷◌, length, map, refl, sym, ap, ap₂, subst, arith, suc}
use Rattle.std.specs.Prelude.{All, IfSome, Option, None, Some, codes, option_and_then, option_map}
use Rattle.std.specs.List.{AllByRecursion, AllZip}
use Rattle.std.specs.Str.{IsUtf8}
use Rattle.std.proofs.lemmas.List.{length-map}
use Rattle.std.proofs.lemmas.List.Elements.{All-append, All-nil, All-from_recursion, recursion_from_All}
use Rattle.wasm_entries.specs.Spelling.{IsIndex, ExportStands}
use Rattle.wasm_forms.specs.Spelling.{vector_bytes}
use Rattle.wasm_frames.specs.Record as wire
use Rattle.wasm_writer.specs.Spelling.{SectionStands}
use Rattle.walrus_base.specs.Operators.{Space, Types, Functions, Tags, DataSegments}
use Rattle.walrus_base.proofs.Standing.{some_inj}
use Rattle.walrus_theorem.proofs.OneSections.{later_none}
use Rattle.walrus_bodies.specs.declared.features.Features.{Features}
use Rattle.walrus_code.specs.Names.{Lookup}
use Rattle.walrus_contents.specs.View.{parts_view}
use Rattle.walrus_contents.specs.declared.parts.Parts.{Parts}
use Rattle.walrus_base.proofs.Lookups.{heads, then_some}
use Rattle.walrus_model.specs.Abstract.{Abstract, DataSegment, Export, FunctionKind, ImportedFunction, LocalFunction, ProducerField, Uninitialised}
use Rattle.walrus_constants.specs.Segments.{named_data}
use Rattle.walrus_model.specs.Sections.{data_of}
use Rattle.walrus_model.proofs.Indices.{planned_below}
use Rattle.walrus_theorem.specs.Spelling.{BodyStands, IsCount}
use Rattle.walrus_theorem.specs.Text.{NameText, names_bytes, sections_of}
use Rattle.walrus_theorem.specs.Text as text
use Rattle.walrus_theorem.proofs.WorkedParts.{all_one, is_text}
use Rattle.walrus_plan.specs.Brought.{import_numbers}
use Rattle.walrus_writing.specs.declared.write.Choices.{Choices}
use Rattle.walrus_writing.specs.Parts.{HasBytes, source, tag_index, type_index, type_index_of, export_with_index, unplaced}
use Rattle.walrus_writing.specs.Records.{Records, text_of, texts_in}
use Rattle.walrus_writing.proofs.CarriedOver.{export_parts}
use Rattle.walrus_writing.proofs.ImportedAlong.{entries_stand}
use Rattle.walrus_writing.proofs.OwnCustoms.{CustomText, Say, with_customs}
use Rattle.walrus_writing.proofs.NamesSpelled.{made_of, named_by_bytes, names_more}
use Rattle.walrus_writing.proofs.ProducersSpelled.{producers_more}
use Rattle.walrus_theorem.proofs.Ranked.{body_stands}
use Rattle.walrus_writing.proofs.Sections.{all_sections}
use Rattle.walrus_writing.proofs.TypesEntered.{types_apart}
use Rattle.walrus_writing.proofs.WrittenAs.{texts_of}

-- the bodies' bytes are those of the texts
pub bodies_same : (p : Parts) (names : Lookup) (features : Features) (order : List ℕ) (bodies : List (List ℕ)) (a : AllZip (HasBytes p names features) order bodies) → map text.unplaced (texts_in p names features order bodies a) ≡ map unplaced bodies
bodies_same p names features [] [] a = refl
bodies_same p names features (i ∷ is) (b ∷ bs) a = ap₂ ◌∷◌ (ap unplaced (sym a.0.written.spelled)) (bodies_same p names features is bs a.1)
bodies_same p names features [] (b ∷ bs) a = elim a [ ]
bodies_same p names features (i ∷ is) [] a = elim a [ ]

kind_named : (names : Lookup) (ty t : ℕ) (k : FunctionKind) → type_index_of names ty k ≡ Some t → names Types ty ≡ Some t
kind_named names ty t (LocalFunction b) e = e
kind_named names ty t (ImportedFunction i) e = absurd (cc)
kind_named names ty t Uninitialised e = absurd (cc)

-- the names of the sections that are made are text
names_stand : (bytes : List ℕ) → All (λ (c : wire.Custom). IsUtf8 c.name) (named_by_bytes bytes)
names_stand [] = All-nil _
names_stand (b ∷ bs) = all_one (λ (c : wire.Custom). IsUtf8 c.name) (record { name = codes "name"; bytes = b ∷ bs }) (is_text (codes "name") refl)

producers_stand : (fields : List ProducerField) → All (λ (c : wire.Custom). IsUtf8 c.name) (producers_more fields)
producers_stand [] = All-nil _
producers_stand (f ∷ fs) = all_one (λ (c : wire.Custom). IsUtf8 c.name) (record { name = codes "producers"; bytes = vector_bytes text.field_bytes (f ∷ fs) }) (is_text (codes "producers") refl)

module _ {p : Parts} {features : Features} (r : Records p features) where
  abbrev V : Abstract
  V = parts_view p

  -- ---- bodies

  abbrev Bodies : (order : List ℕ) (bodies : List (List ℕ)) → Type 0
  Bodies order bodies = AllZip (HasBytes p r.names features) order bodies

  texts_stand : (order : List ℕ) (bodies : List (List ℕ)) (a : Bodies order bodies) → AllByRecursion BodyStands (texts_in p r.names features order bodies a)
  texts_stand [] [] a = tt
  texts_stand (i ∷ is) (b ∷ bs) a = (body_stands (source p r.names features a.0.local) b a.0.places a.0.numbers a.0.ids a.0.used a.0.written (types_apart r), texts_stand is bs a.1)
  texts_stand [] (b ∷ bs) a = elim a [ ]
  texts_stand (i ∷ is) [] a = elim a [ ]

  pub all_bodies_stand : All BodyStands (texts_of r)
  all_bodies_stand = All-from_recursion BodyStands (texts_of r) (texts_stand (r.own Functions) r.bodies r.bodies_are)

  texts_count : (order : List ℕ) (bodies : List (List ℕ)) (a : Bodies order bodies) → length (texts_in p r.names features order bodies a) ≡ length order
  texts_count [] [] a = refl
  texts_count (i ∷ is) (b ∷ bs) a = ap suc (texts_count is bs a.1)
  texts_count [] (b ∷ bs) a = elim a [ ]
  texts_count (i ∷ is) [] a = elim a [ ]

  pub as_many_texts : length (texts_of r) ≡ length (r.own Functions)
  as_many_texts = texts_count (r.own Functions) r.bodies r.bodies_are

  -- ---- sections

  -- an index is a number of 32 bits
  is_index : (s : Space) (i k : ℕ) → r.names s i ≡ Some k → IsIndex k
  is_index s i k e = omega (arith, planned_below r.numbered r.is_plan s i k e, r.few s)

  functions_stand : (raws order : List ℕ) → map Some raws ≡ map (λ i. option_and_then (type_index r.names) (V.functions i)) order → AllByRecursion IsIndex raws
  functions_stand [] order e = tt
  functions_stand (t ∷ raws) [] e = absurd (cc)
  functions_stand (t ∷ raws) (i ∷ order) e =
      let q = heads (Some t) (option_and_then (type_index r.names) (V.functions i)) (map Some raws) (map (λ j. option_and_then (type_index r.names) (V.functions j)) order) e in
      let f = then_some (type_index r.names) (V.functions i) t (sym q.0) in
      (is_index Types f.0.ty t (kind_named r.names f.0.ty t f.0.kind f.2), functions_stand raws order q.1)

  tags_stand : (raws order : List ℕ) → map Some raws ≡ map (λ i. option_and_then (tag_index r.names) (V.tags i)) order → AllByRecursion IsIndex raws
  tags_stand [] order e = tt
  tags_stand (t ∷ raws) [] e = absurd (cc)
  tags_stand (t ∷ raws) (i ∷ order) e =
      let q = heads (Some t) (option_and_then (tag_index r.names) (V.tags i)) (map Some raws) (map (λ j. option_and_then (tag_index r.names) (V.tags j)) order) e in
      let f = then_some (tag_index r.names) (V.tags i) t (sym q.0) in
      (is_index Types f.0.ty t f.2, tags_stand raws order q.1)

  exports_stand : (raws : List entries.Export) (all : List Export) → map Some raws ≡ map (export_with_index r.names) all → AllByRecursion (λ (e : entries.Export). IsUtf8 e.name) raws → AllByRecursion ExportStands raws
  exports_stand [] all e texts = tt
  exports_stand (y ∷ raws) [] e texts = absurd (cc)
  exports_stand (y ∷ raws) (x ∷ all) e texts =
      let q = heads (Some y) (export_with_index r.names x) (map Some raws) (map (export_with_index r.names) all) e in
      let parts = export_parts r.names x y (sym q.0) in
      (record { name = texts.0; index = is_index x.item.0 x.item.1 y.index parts.index }, exports_stand raws all q.1 texts.1)

  start_stands : (start was : Option ℕ) → option_map (λ (i : ℕ). Some i) start ≡ option_map (r.names Functions) was → IfSome start IsIndex
  start_stands None was e = tt
  start_stands (Some j) (Some i) e = is_index Functions i j (sym (some_inj (Some j) (r.names Functions i) e))
  start_stands (Some j) None e = absurd (cc)

  -- there are fewer segments than indices
  few_segments : length r.data_segments < 2 ^ 32
  few_segments = omega (arith, r.few DataSegments, length-map r.data_segments data_of, length-map (map data_of r.data_segments) (λ (d : DataSegment). Some d), ap length r.data_segments_are, length-map (r.plan DataSegments) (λ i. option_and_then (named_data r.names) (V.data_segments i)))

  count_stands : (o : Option ℕ) → IsCount V (length r.data_segments) o → IfSome o IsIndex
  count_stands None none = tt
  count_stands (Some count) is = let same : count ≡ length r.data_segments = is.1 in omega (arith, few_segments, same)

  pub sections_stand : (choices : Choices) (names : NameText) (sections : List wire.Custom) (e : CustomText) → Say p choices names sections e → All SectionStands (sections_of (with_customs (text_of r) e))
  sections_stand choices names sections e say = all_sections (with_customs (text_of r) e) sections say.split say.dylinks say.others SectionStands (record {
    types = r.types_stand;
    imports = entries_stand r.names V (import_numbers p) r.imports r.imports_are;
    functions = All-from_recursion IsIndex r.functions (functions_stand r.functions (r.own Functions) r.functions_are);
    tables = r.tables_stand;
    memories = r.memories_stand;
    tags = All-from_recursion IsIndex r.tags (tags_stand r.tags (r.own Tags) r.tags_are);
    globals = r.globals_stand;
    exports = All-from_recursion ExportStands r.exports (exports_stand r.exports V.exports r.exports_are (recursion_from_All (λ (e : entries.Export). IsUtf8 e.name) r.exports r.texts));
    start = subst (λ (o : Option ℕ). IfSome o IsIndex) (sym (later_none r.start)) (start_stands r.start V.start r.start_is);
    elements = r.elements_stand;
    data_count = subst (λ (o : Option ℕ). IfSome o IsIndex) (sym (later_none r.data_count)) (count_stands r.data_count r.counted);
    bodies = tt;
    data_segments = r.data_segments_stand;
    customs = All-append (λ (c : wire.Custom). IsUtf8 c.name) sections (made_of e.names e.producers) say.texts (All-append (λ (c : wire.Custom). IsUtf8 c.name) (names_more e.names) (producers_more e.producers) (names_stand (names_bytes e.names)) (producers_stand e.producers));
  })
