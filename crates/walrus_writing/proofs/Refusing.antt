-- What a refusal of a part says of the items that are written, and the records that are.
use Rattle.wasm_entries.specs.Record as entries
use Rattle.std.proofs.Common.{inl, inr, ◌≡◌, ℕ, ◌-◌, ◌<◌, ◌^◌, List, [], ◌∷◌, ◌++◌, map, length, refl, sym, ap, ap₂, ◌∙◌, subst, arith, None, Some}
use Rattle.std.specs.Prelude.{Option, All, Err, Ok, option_and_then, option_map}
use Rattle.std.specs.List.{AllZip}
use Rattle.std.specs.Str.{IsUtf8}
use Rattle.std.proofs.lemmas.List.{length-append, length-map}
use Rattle.std.proofs.lemmas.List.Elements.{All-filter, All-map}
use Rattle.wasm_frames.specs.Record as wire
use Rattle.wasm_entries.specs.Record.{data_entry, element_entry, export_entry, global_entry, group, import_entry, table_entry}
use Rattle.wasm_entries.specs.declared.record.RawData.{RawData}
use Rattle.wasm_entries.specs.declared.record.RawElement.{RawElement}
use Rattle.wasm_entries.specs.declared.record.RawExport.{RawExport}
use Rattle.wasm_entries.specs.declared.record.RawGlobal.{RawGlobal}
use Rattle.wasm_entries.specs.declared.record.RawImport.{RawImport}
use Rattle.wasm_entries.specs.declared.record.RawLimits.{RawLimits}
use Rattle.wasm_entries.specs.declared.record.RawTable.{RawTable}
use Rattle.wasm_entries.specs.Spelling.{DataStands, ElementStands, GlobalStands, TableStands}
use Rattle.wasm_entries.specs.TypeSpelling.{LimitsStand}
use Rattle.wasm_payloads.specs.Lent.{NamesFit}
use Rattle.wasm_payloads.specs.Spelling.{ProducersFit}
use Rattle.wasm_wire.specs.ModuleSpelling.{ModuleFits, TellsPlaces, WritesModule, as_written, code_place, group_of, is_in, module_bytes}
use Rattle.wasm_forms.specs.declared.error.WireError.{WireError}
use Rattle.wasm_forms.specs.declared.error.WireError.TheVariants as Wire
use Rattle.walrus_base.specs.Arena.{entries as entries_in, item_at, items}
use Rattle.walrus_base.specs.Id.{place}
use Rattle.walrus_base.specs.ModuleTypes.{type_slots}
use Rattle.walrus_base.specs.Operators.{Space, Functions, Tables, Memories, Tags, Globals, DataSegments}
use Rattle.walrus_code.specs.Names.{Lookup}
use Rattle.walrus_groups.specs.Indexed.{AreIndexed}
use Rattle.walrus_groups.specs.Named.{named_def}
use Rattle.walrus_items.specs.Exports.{exports}
use Rattle.walrus_items.specs.Imports.{imports}
use Rattle.walrus_constants.specs.Named.{named_global, named_table}
use Rattle.walrus_constants.specs.Segments.{named_data, named_element}
use Rattle.walrus_items.specs.Data.{DataValue, data_segments}
use Rattle.walrus_items.specs.Elements.{elements}
use Rattle.walrus_items.specs.Globals.{GlobalValue, globals}
use Rattle.walrus_items.specs.Memories.{MemoryValue, memories}
use Rattle.walrus_items.specs.Tables.{TableValue, tables}
use Rattle.walrus_items.specs.Tags.{TagValue, tags}
use Rattle.walrus_contents.specs.View.{data_of, element_of, export_of, global_of, memory_of, parts_view, table_of, tag_of}
use Rattle.walrus_contents.specs.declared.parts.Parts.{Parts}
use Rattle.walrus_base.proofs.Lookups.{as_long}
use Rattle.walrus_model.proofs.PlacedTypes.{zip_length}
use Rattle.walrus_model.proofs.Slots.{stands_at}
use Rattle.walrus_model.specs.Abstract.{DataSegment, Element, Memory, ProducerField}
use Rattle.walrus_model.specs.Plan.{AreNumbered, IsPlan}
use Rattle.walrus_model.specs.WellMade.{ImportsMatch}
use Rattle.walrus_model.specs.Sections as said
use Rattle.walrus_base.proofs.Lists.{map-map, map-same_on}
use Rattle.walrus_items.specs.Errors.{error_of_wire}
use Rattle.walrus_items.specs.declared.error.Error.{Error}
use Rattle.walrus_items.specs.declared.transform.CodeTransform.{CodeTransform}
use Rattle.walrus_items.specs.declared.error.Error.TheVariants as Parts_error
use Rattle.walrus_theorem.specs.Spelling.{IsCount}
use Rattle.walrus_theorem.specs.Text.{NameText, raw_field}
use Rattle.walrus_writing.specs.Names.{first_own, if_chosen, names_said}
use Rattle.wasm_frames.specs.Frames.{CustomSection}
use Rattle.wasm_writer.specs.Spelling.{SectionFits, count_place, range_of}
use Rattle.wasm_writer.specs.declared.places.CodePlaces.{CodePlaces}
use Rattle.wasm_wire.specs.declared.written.CustomGroup.TheVariants.{Dylink}
use Rattle.walrus_groups.proofs.OneList.{All-front}
use Rattle.walrus_writing.specs.Located.{ArePlaces, TellsBodies, TellsItems}
use Rattle.walrus_writing.specs.Customs.{Task, chosen_producers, sections_made}
use Rattle.walrus_writing.specs.Bodies.{AreBodies}
use Rattle.walrus_writing.specs.BySection.{GivesOrNone}
use Rattle.walrus_writing.specs.Parts.{BodySeen, HasBytes, export_with_index, memory_limits, tag_index, type_index, unplaced}
use Rattle.walrus_plan.specs.Brought.{import_numbers, own_of, own_places, places_brought}
use Rattle.walrus_writing.specs.Imported.{IsEntryAt}
use Rattle.walrus_plan.specs.Places.{places, places_own}
use Rattle.walrus_writing.specs.Records.{DoesNotFit, IsModuleOf, Records, Spells, customs_written, module_of, names_written, sections_with}
use Rattle.walrus_writing.specs.Elements.{ChoosesFlag, IsSpelledElement, RefusesElements}
use Rattle.walrus_writing.specs.Globals.{IsSpelledGlobal, RefusesGlobals}
use Rattle.walrus_writing.specs.Segments.{IsSpelledData, RefusesData}
use Rattle.walrus_writing.proofs.DataRecords.{all_own}
use Rattle.walrus_plan.specs.Reads.{ReadsInOrder}
use Rattle.walrus_writing.specs.Refusals.{ABody, AType, ATable, AGlobal, AnElement, ASegment, RefusesBodies, RefusesItems, RefusesModule, RefusesTypes}
use Rattle.walrus_writing.specs.Tables.{IsSpelledTable, RefusesTables}
use Rattle.walrus_plan.specs.declared.plan.Plan.{Plan}
use Rattle.walrus_writing.proofs.OwnPlaces.{defined_own, parted_own, seen_by_own}
use Rattle.walrus_writing.proofs.Placed.{written_fit}
use Rattle.walrus_writing.proofs.Spelled.{elements_all_spelled, globals_all_spelled, segments_all_spelled, tables_all_spelled}
use Rattle.walrus_writing.proofs.SpellsLemmas.{bytes_zip, used_zip}

-- ---- refusals

module _ (p : Parts) (job : Task) (X : Type 0) where
  pub types_refused : (e : Error) → RefusesTypes (type_slots p.types.now) e → RefusesItems {X = X} p job (Err e)
  types_refused (Parts_error.Memory m) r = tt
  types_refused Parts_error.NotWritable r = AType r
  types_refused _ r = absurd r

  pub bodies_refused : (e : Error) → RefusesBodies p job.choices.features e → RefusesItems {X = X} p job (Err e)
  bodies_refused (Parts_error.Memory m) r = tt
  bodies_refused Parts_error.NotWritable r = ABody r
  bodies_refused Parts_error.TooLarge r = inl r
  bodies_refused _ r = absurd r

  pub tables_refused : (e : Error) → RefusesTables (items (tables p.tables.now)) e → RefusesItems {X = X} p job (Err e)
  tables_refused (Parts_error.Memory m) r = tt
  tables_refused Parts_error.NotWritable r = ATable r.0 r.1 r.2
  tables_refused _ r = absurd r

  pub globals_refused : (e : Error) → RefusesGlobals (items (globals p.globals.now)) e → RefusesItems {X = X} p job (Err e)
  globals_refused (Parts_error.Memory m) r = tt
  globals_refused Parts_error.NotWritable r = AGlobal r.0 r.1 r.2
  globals_refused _ r = absurd r

  pub elements_refused : (e : Error) → RefusesElements (items (elements p.elements.now)) e → RefusesItems {X = X} p job (Err e)
  elements_refused (Parts_error.Memory m) r = tt
  elements_refused Parts_error.NotWritable r = AnElement r.0 r.1 r.2
  elements_refused _ r = absurd r

  pub data_refused : (e : Error) → RefusesData (items (data_segments p.data_.now)) e → RefusesItems {X = X} p job (Err e)
  data_refused (Parts_error.Memory m) r = tt
  data_refused Parts_error.NotWritable r = ASegment r.0 r.1 r.2
  data_refused _ r = absurd r

  pub memory_refused : (Y : Type 0) (P : Y → Type 0) (e : Error) → GivesOrNone P (Err e) → RefusesItems {X = X} p job (Err e)
  memory_refused Y P (Parts_error.Memory m) r = tt
  memory_refused Y P _ r = absurd r

  -- whatever would have been given
  pub refuses_any : (Y : Type 0) (e : Error) → RefusesItems {X = Y} p job (Err e) → RefusesItems {X = X} p job (Err e)
  refuses_any Y (Parts_error.Memory m) r = tt
  refuses_any Y Parts_error.NotWritable r = r
  refuses_any Y Parts_error.TooLarge r = r
  refuses_any Y _ r = absurd r

-- ---- the module

module _ (p : Parts) (job : Task) (order : List ℕ) (m : wire.Module) (made : IsModuleOf p job order m) where
  pub module_written : (bytes : List ℕ) → bytes ≡ module_bytes m → ModuleFits m → Spells p job bytes
  module_written bytes are fit = record { records = made.records; names_are = made.names_are; fit = subst ModuleFits made.is fit; are = are ∙ ap module_bytes made.is }

  unfit : (ModuleFits m → ⊥) → DoesNotFit p job
  unfit refused = record { records = made.records; names_are = made.names_are; too_large = λ fit. refused (subst ModuleFits (sym made.is) fit) }

  pub module_refused : (X : Type 0) (e : WireError) → WritesModule (Err e) m → RefusesItems {X = X} p job (Err (error_of_wire e))
  module_refused X Wire.Malformed refused = absurd refused
  module_refused X (Wire.Memory e) refused = tt
  module_refused X Wire.TooLarge refused = inr (unfit refused)

  pub measure_refused : (X : Type 0) (e : Error) → RefusesModule m e → RefusesItems {X = X} p job (Err e)
  measure_refused X (Parts_error.Memory e) refused = tt
  measure_refused X Parts_error.TooLarge refused = inr (unfit refused)
  measure_refused X _ refused = absurd refused

  -- each function has a body
  pub as_many_bodies : length order ≡ length m.bodies
  as_many_bodies =
      ap length (sym made.order_is)
      ∙ zip_length (HasBytes p made.records.names job.choices.features) (made.records.own Functions) made.records.bodies made.records.bodies_are
      ∙ sym (length-map made.records.bodies unplaced)
      ∙ ap (λ (x : wire.Module). length x.bodies) (sym made.is)

  pub items_told : (x : CodeTransform) → TellsBodies m order x → TellsItems p job x
  items_told x told = record {
    records = made.records;
    names_are = made.names_are;
    told = subst (λ (z : wire.Module). TellsBodies z (made.records.own Functions) x) made.is (subst (λ (l : List ℕ). TellsBodies m l x) (sym made.order_is) told);
  }

-- ---- the records

-- what is made of records in two steps
pub made_twice : {A B C : Type 0} (g : B → C) (f : A → B) (xs : List A) → map (λ (c : C). Some c) (map g (map f xs)) ≡ map (λ x. Some (g (f x))) xs
made_twice g f [] = refl
made_twice g f (x ∷ xs) = ap (λ l. Some (g (f x)) ∷ l) (made_twice g f xs)

-- what is made of the items of an arena, by their places
pub by_places : {T W : Type 0} (f : T → Option W) (slots : List (Option T)) → map (λ i. option_and_then f (item_at slots i)) (map (λ e. e.0) (entries_in slots)) ≡ map f (items slots)
by_places {T} f slots =
    map-map (λ i. option_and_then f (item_at slots i)) (λ (e : ℕ × T). e.0) (entries_in slots)
    ∙ map-same_on (λ (e : ℕ × T). option_and_then f (item_at slots e.0)) (λ (e : ℕ × T). f e.1) (entries_in slots) (λ e at. ap (option_and_then f) (stands_at slots e at))
    ∙ sym (map-map f (λ (e : ℕ × T). e.1) (entries_in slots))

-- so it is of what is seen of them
pub seen_by_places : {T X W : Type 0} (seen_as : T → X) (f : X → Option W) (slots : List (Option T)) → map (λ i. option_and_then f (option_map seen_as (item_at slots i))) (map (λ e. e.0) (entries_in slots)) ≡ map (λ t. f (seen_as t)) (items slots)
seen_by_places {T} {X} {W} seen_as f slots =
    ap (λ (es : List (ℕ × T)). map (λ i. option_and_then f (option_map seen_as (item_at slots i))) (map (λ (e : ℕ × T). e.0) es)) (sym (all_own (entries_in slots)))
    ∙ seen_by_own (λ (t : T). None) seen_as f slots
    ∙ ap (map (λ (t : T). f (seen_as t))) (all_own (items slots))

module _ (p : Parts) (job : Task) (names : Lookup) (named : names ≡ job.names) (plan : Plan) (groups : List entries.Group) (raw_imports : List RawImport) (raw_functions : List ℕ) (raw_tables : List RawTable) (raw_memories : List RawLimits) (raw_tags : List ℕ) (raw_globals : List RawGlobal) (exported : List RawExport) (bodies : List BodySeen) (raw_elements : List RawElement) (raw_segments : List RawData) (count : Option ℕ)
    (matched : ImportsMatch (parts_view p)) (reads : ReadsInOrder (parts_view p))
    (is_plan : IsPlan (parts_view p) (places plan)) (numbered : AreNumbered names (places plan)) (few : (s : Space) → length (places plan s) < 2 ^ 32)
    (types : map place plan.types.items ≡ map (λ e. e.0) (entries_in (type_slots p.types.now)))
    (brought : map place plan.brought_functions.items ≡ places_brought Functions (items (imports p.imports.now)))
    (tables_rise : map place plan.tables.items ≡ places_brought Tables (items (imports p.imports.now)) ++ own_places (λ t. t.imported_by) (entries_in (tables p.tables.now)))
    (memories_rise : map place plan.memories.items ≡ places_brought Memories (items (imports p.imports.now)) ++ own_places (λ m. m.imported_by) (entries_in (memories p.memories.now)))
    (tags_rise : map place plan.tags.items ≡ places_brought Tags (items (imports p.imports.now)) ++ own_places (λ t. t.imported_by) (entries_in (tags p.tags.now)))
    (globals_rise : map place plan.globals.items ≡ places_brought Globals (items (imports p.imports.now)) ++ own_places (λ g. g.imported_by) (entries_in (globals p.globals.now)))
    (types_are : AreIndexed names (items (type_slots p.types.now)) groups)
    (imports_are : AllZip (IsEntryAt names (parts_view p)) (import_numbers p) (map import_entry raw_imports))
    (functions_are : map Some raw_functions ≡ map (λ id. option_and_then (type_index names) ((parts_view p).functions (place id))) plan.own_functions.items)
    (tables_are : map (λ t. Some (said.table_of (table_entry t))) raw_tables ≡ map (λ t. named_table names (table_of t)) (own_of (λ x. x.imported_by) (items (tables p.tables.now))))
    (tables_stand : All (λ t. TableStands (table_entry t)) raw_tables)
    (tables_spelled : All IsSpelledTable (own_of (λ x. x.imported_by) (items (tables p.tables.now))))
    (memories_are : map Some raw_memories ≡ map (λ m. Some (memory_limits (memory_of m))) (own_of (λ x. x.imported_by) (items (memories p.memories.now))))
    (memories_stand : All LimitsStand raw_memories)
    (tags_are : map Some raw_tags ≡ map (λ t. tag_index names (tag_of t)) (own_of (λ x. x.imported_by) (items (tags p.tags.now))))
    (globals_are : map (λ g. Some (said.global_of (global_entry g))) raw_globals ≡ map (λ g. named_global names (global_of g)) (own_of (λ x. x.imported_by) (items (globals p.globals.now))))
    (globals_stand : All (λ g. GlobalStands (global_entry g)) raw_globals)
    (globals_spelled : All IsSpelledGlobal (own_of (λ x. x.imported_by) (items (globals p.globals.now))))
    (exports_are : map (λ e. Some (export_entry e)) exported ≡ map (λ v. export_with_index names (export_of v)) (items (exports p.exports.now)))
    (texts : All (λ e. IsUtf8 e.name.now) exported)
    (started : Option ℕ) (start_is : option_map (λ (i : ℕ). Some i) started ≡ option_map (names Functions) (parts_view p).start)
    (bodies_are : AreBodies p names job.choices.features plan.own_functions.items bodies)
    (elements_rise : map place plan.elements.items ≡ map (λ e. e.0) (entries_in (elements p.elements.now)))
    (elements_are : map (λ e. Some (said.element_of (element_entry e))) raw_elements ≡ map (λ e. named_element names (element_of e)) (items (elements p.elements.now)))
    (elements_stand : All (λ e. ElementStands (element_entry e)) raw_elements)
    (elements_chosen : All (λ e. ChoosesFlag names (parts_view p).tables (element_entry e)) raw_elements)
    (elements_spelled : All IsSpelledElement (items (elements p.elements.now)))
    (data_rise : map place plan.data_.items ≡ map (λ e. e.0) (entries_in (data_segments p.data_.now)))
    (segments_are : map (λ d. Some (said.data_of (data_entry d))) raw_segments ≡ map (λ d. named_data names (data_of d)) (items (data_segments p.data_.now)))
    (segments_stand : All (λ d. DataStands (data_entry d)) raw_segments)
    (segments_spelled : All IsSpelledData (items (data_segments p.data_.now)))
    (counted : IsCount (parts_view p) (length (places plan DataSegments)) count) where
  -- as many records as segments
  pub as_many_segments : length (places plan DataSegments) ≡ length (map data_entry raw_segments)
  as_many_segments =
      ap length data_rise
      ∙ length-map (entries_in (data_segments p.data_.now)) (λ (e : ℕ × DataValue). e.0)
      ∙ sym (length-map (entries_in (data_segments p.data_.now)) (λ (e : ℕ × DataValue). e.1))
      ∙ sym (as_long (λ (d : RawData). Some (said.data_of (data_entry d))) (λ (d : DataValue). named_data names (data_of d)) raw_segments (items (data_segments p.data_.now)) segments_are)
      ∙ sym (length-map raw_segments data_entry)

  -- the segments of the plan have these records
  pub segments_along : map (λ (d : DataSegment). Some d) (map said.data_of (map data_entry raw_segments)) ≡ map (λ i. option_and_then (named_data names) ((parts_view p).data_segments i)) (map place plan.data_.items)
  segments_along =
      made_twice said.data_of data_entry raw_segments ∙ segments_are
      ∙ sym (seen_by_places data_of (named_data names) (data_segments p.data_.now))
      ∙ ap (map (λ i. option_and_then (named_data names) ((parts_view p).data_segments i))) (sym data_rise)

  pub elements_along : map (λ (e : Element). Some e) (map said.element_of (map element_entry raw_elements)) ≡ map (λ i. option_and_then (named_element names) ((parts_view p).elements i)) (map place plan.elements.items)
  elements_along =
      made_twice said.element_of element_entry raw_elements ∙ elements_are
      ∙ sym (seen_by_places element_of (named_element names) (elements p.elements.now))
      ∙ ap (map (λ i. option_and_then (named_element names) ((parts_view p).elements i))) (sym elements_rise)

  abbrev pub records_of : Records p job.choices.features
  records_of = record {
    names = names;
    plan = places plan;
    is_plan = is_plan;
    numbered = numbered;
    few = few;
    matched = matched;
    own = places_own p plan;
    defined = defined_own p plan;
    parted = parted_own p plan brought tables_rise memories_rise tags_rise globals_rise;
    imports = map import_entry raw_imports;
    imports_are = imports_are;
    types = groups;
    types_are = types_are.read ∙ sym (by_places (named_def names) (type_slots p.types.now)) ∙ ap (map (λ i. option_and_then (named_def names) ((parts_view p).types i))) (sym types);
    none_empty = types_are.none_empty;
    types_stand = types_are.stand;
    functions = raw_functions;
    functions_are = functions_are ∙ sym (map-map (λ i. option_and_then (type_index names) ((parts_view p).functions i)) place plan.own_functions.items);
    reads = reads;
    tables = map table_entry raw_tables;
    tables_are =
        made_twice said.table_of table_entry raw_tables ∙ tables_are ∙ sym (seen_by_own (λ (t : TableValue). t.imported_by) table_of (named_table names) (tables p.tables.now));
    tables_stand = All-map TableStands table_entry raw_tables tables_stand;
    tables_spelled = tables_all_spelled p matched names (map import_entry raw_imports) imports_are tables_spelled;
    memories = raw_memories;
    memories_are = memories_are ∙ sym (seen_by_own (λ (m : MemoryValue). m.imported_by) memory_of (λ (m : Memory). Some (memory_limits m)) (memories p.memories.now));
    memories_stand = memories_stand;
    tags = raw_tags;
    tags_are = tags_are ∙ sym (seen_by_own (λ (t : TagValue). t.imported_by) tag_of (tag_index names) (tags p.tags.now));
    globals = map global_entry raw_globals;
    globals_are =
        made_twice said.global_of global_entry raw_globals ∙ globals_are ∙ sym (seen_by_own (λ (g : GlobalValue). g.imported_by) global_of (named_global names) (globals p.globals.now));
    globals_stand = All-map GlobalStands global_entry raw_globals globals_stand;
    globals_spelled = globals_all_spelled p matched names (map import_entry raw_imports) imports_are globals_spelled;
    bodies = map (λ (b : BodySeen). b.bytes) bodies;
    bodies_are = bytes_zip p names job.choices.features plan.own_functions.items bodies bodies_are;
    exports = map export_entry exported;
    exports_are = map-map (λ (e : entries.Export). Some e) export_entry exported ∙ exports_are ∙ sym (map-map (export_with_index names) export_of (items (exports p.exports.now)));
    texts = All-map (λ (e : entries.Export). IsUtf8 e.name) export_entry exported texts;
    start = started;
    start_is = start_is;
    elements = map element_entry raw_elements;
    elements_are = elements_along;
    elements_stand = All-map ElementStands element_entry raw_elements elements_stand;
    elements_chosen = All-map (ChoosesFlag names (parts_view p).tables) element_entry raw_elements elements_chosen;
    elements_spelled = elements_all_spelled p matched names (map import_entry raw_imports) imports_are elements_spelled;
    data_segments = map data_entry raw_segments;
    data_segments_are = segments_along;
    data_segments_stand = All-map DataStands data_entry raw_segments segments_stand;
    data_segments_spelled = segments_all_spelled p matched names (map import_entry raw_imports) imports_are segments_spelled;
    data_count = count;
    counted = subst (λ (n : ℕ). IsCount (parts_view p) n count) as_many_segments counted;
  }

  abbrev producers_chosen : List ProducerField
  producers_chosen = chosen_producers p job.choices

  -- what the name section says
  abbrev names_given : NameText
  names_given = if_chosen job.choices.names (names_said p (places plan) (first_own plan) (map (λ (b : BodySeen). b.used) bodies))

  first_same : first_own plan ≡ length (places plan Functions) - length (places_own p plan Functions)
  first_same = omega (arith, length-append (map place plan.brought_functions.items) (map place plan.own_functions.items), length-map plan.brought_functions.items place)

  names_same : names_given ≡ names_written records_of job.choices
  names_same =
      ap₂ (λ (first : ℕ) (used : List (List (ℕ × ℕ))). if_chosen job.choices.names (names_said p (places plan) first used))
      first_same
      (used_zip p names job.choices.features plan.own_functions.items bodies bodies_are)

  -- payloads that don't fit
  pub payloads_refused : (X : Type 0) → (NamesFit names_given → ProducersFit (map raw_field producers_chosen) → ⊥) → RefusesItems {X = X} p job (Err Parts_error.TooLarge)
  payloads_refused X refused = inr (record {
    records = records_of;
    names_are = named;
    too_large = λ fit.
        let both = written_fit job.sections (names_written records_of job.choices) producers_chosen (module_of records_of (customs_written job records_of)) refl fit in
        refused (subst NamesFit (sym names_same) both.0) both.1;
  })

  -- the module of these sections
  module _ (order : List ℕ) (code : List wire.Body) (customs : List wire.Custom) (none : order ≡ []) (codes : code ≡ map unplaced (map (λ (b : BodySeen). b.bytes) bodies)) (customs_are : customs ≡ job.sections ++ sections_made names_given producers_chosen) where
    abbrev with_rest : List wire.Body → List wire.Custom → wire.Module
    with_rest all behind = sections_with groups (map import_entry raw_imports) raw_functions (map table_entry raw_tables) raw_memories raw_tags (map global_entry raw_globals) (map export_entry exported) started (map element_entry raw_elements) count all (map data_entry raw_segments) behind

    abbrev m : wire.Module
    m = record (with_rest code customs) { order = order }

    module_is : m ≡ module_of records_of (customs_written job records_of)
    module_is =
        ap (λ (ids : List ℕ). record (with_rest code customs) { order = ids }) none
        ∙ ap (λ (all : List wire.Body). with_rest all customs) codes
        ∙ ap (with_rest (map unplaced (map (λ (b : BodySeen). b.bytes) bodies))) (customs_are ∙ ap (λ (names : NameText). job.sections ++ sections_made names producers_chosen) names_same)

    pub records_made : IsModuleOf p job (map place plan.own_functions.items) m
    records_made = record { records = records_of; names_are = named; order_is = refl; is = module_is }

  -- the module of these sections with other custom sections: those of dynamic linking alone
  module _ (order : List ℕ) (code : List wire.Body) (customs dylinks : List wire.Custom) (none : order ≡ []) (codes : code ≡ map unplaced (map (λ (b : BodySeen). b.bytes) bodies)) (customs_are : customs ≡ dylinks) where
    abbrev part_with : List wire.Body → List wire.Custom → wire.Module
    part_with all front = sections_with groups (map import_entry raw_imports) raw_functions (map table_entry raw_tables) raw_memories raw_tags (map global_entry raw_globals) (map export_entry exported) started (map element_entry raw_elements) count all (map data_entry raw_segments) front

    abbrev part : wire.Module
    part = record (part_with code customs) { order = order }

    part_is : part ≡ module_of records_of dylinks
    part_is =
        ap (λ (ids : List ℕ). record (part_with code customs) { order = ids }) none
        ∙ ap (λ (all : List wire.Body). part_with all customs) codes
        ∙ ap (part_with (map unplaced (map (λ (b : BodySeen). b.bytes) bodies))) customs_are

    pub places_told : (places : CodePlaces) (texts_of : List (List ℕ)) → map (λ (b : BodySeen). b.bytes) bodies ≡ texts_of → TellsPlaces (Ok places) part
        → ArePlaces p names job.choices.features (map place plan.own_functions.items) texts_of dylinks places
    places_told places texts_of same told = record {
      records = records_of;
      names_are = refl;
      order_is = refl;
      bodies_are = same;
      count = told.0 ∙ ap (λ (x : wire.Module). count_place (code_place x) x.bodies) part_is;
      ranges = told.1 ∙ ap (λ (x : wire.Module). map range_of (as_written x).bodies) part_is;
    }

    abbrev Fits : wire.Custom → Type 0
    Fits x = SectionFits (CustomSection x)

    -- it fits where the whole does
    part_fits : group_of Dylink job.sections ≡ dylinks → ModuleFits (module_of records_of (customs_written job records_of)) → ModuleFits (module_of records_of dylinks)
    part_fits same fit = record {
      types = fit.types;
      imports = fit.imports;
      functions = fit.functions;
      tables = fit.tables;
      memories = fit.memories;
      tags = fit.tags;
      globals = fit.globals;
      exports = fit.exports;
      start = fit.start;
      elements = fit.elements;
      data_count = fit.data_count;
      bodies = fit.bodies;
      data_segments = fit.data_segments;
      customs = subst (λ (l : List wire.Custom). All Fits l) same
          (All-filter (λ (x : wire.Custom). is_in Dylink x.name) Fits job.sections (All-front Fits job.sections (sections_made (names_written records_of job.choices) producers_chosen) fit.customs));
    }

    pub places_refused : group_of Dylink job.sections ≡ dylinks → (X : Type 0) (e : WireError) → TellsPlaces (Err e) part → RefusesItems {X = X} p job (Err (error_of_wire e))
    places_refused same X Wire.Malformed refused = absurd refused
    places_refused same X (Wire.Memory e) refused = tt
    places_refused same X Wire.TooLarge refused = inr (record { records = records_of; names_are = named; too_large = λ fit. refused (subst ModuleFits (sym part_is) (part_fits same fit)) })
