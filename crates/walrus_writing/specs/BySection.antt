-- What is written section by section: what is said of the records of a section, and the sections of a module one behind the other.
use Rattle.wasm_entries.specs.declared.record.RawData.{RawData}
use Rattle.wasm_entries.specs.declared.record.RawElement.{RawElement}
use Rattle.wasm_entries.specs.declared.record.RawExport.{RawExport}
use Rattle.wasm_entries.specs.declared.record.RawGlobal.{RawGlobal}
use Rattle.wasm_entries.specs.declared.record.RawImport.{RawImport}
use Rattle.wasm_entries.specs.declared.record.RawLimits.{RawLimits}
use Rattle.wasm_entries.specs.declared.record.RawTable.{RawTable}
use Rattle.wasm_entries.specs.Record.{Group, data_entry, element_entry, export_entry, global_entry, import_entry, table_entry}
use Rattle.wasm_entries.specs.Spelling.{DataStands, ElementStands, GlobalStands, TableStands}
use Rattle.wasm_entries.specs.TypeSpelling.{LimitsStand}
use Rattle.wasm_frames.specs.Frames.{Section, header, CustomSection, Types, Imports, Functions, Tables, Memories, Globals, Exports, Start, Elements, Code, DataSegments, DataCount, Tags}
use Rattle.wasm_frames.specs.Record as wire
use Rattle.wasm_writer.specs.Spelling.{SectionFits, all_spelled, listed}
use Rattle.wasm_wire.specs.ModuleSpelling.{ModuleFits, group_of, if_any, if_given, sections_in_order}
use Rattle.wasm_wire.specs.declared.written.CustomGroup.TheVariants.{Dylink, Names, Producers, Others}
use Rattle.std.specs.Prelude.{ℕ, Bool, List, ◌++◌, Option, Some, None, IfSome, All, map, option_and_then, option_map, ◌≡◌, ⊤, Result, Ok, Err}
use Rattle.std.specs.List.{AllZip}
use Rattle.std.specs.Str.{IsUtf8}
use Rattle.wasm_payloads.specs.Spelling.{NameMap}
use Rattle.walrus_base.specs.Arena.{entries, items}
use Rattle.walrus_base.specs.Id.{place}
use Rattle.walrus_base.specs.Operators as spaces
use Rattle.walrus_base.specs.declared.id.Id.{Id}
use Rattle.walrus_base.specs.declared.keys.FunctionKey.{FunctionKey}
use Rattle.walrus_bodies.specs.declared.features.Features.{Features}
use Rattle.walrus_code.specs.Indices.{index_of}
use Rattle.walrus_base.specs.ModuleTypes.{type_slots}
use Rattle.walrus_code.specs.Names.{Lookup}
use Rattle.walrus_constants.specs.Named.{named_global, named_table}
use Rattle.walrus_constants.specs.Segments.{named_data, named_element}
use Rattle.walrus_contents.specs.View.{data_of, element_of, export_of, global_of, memory_of, parts_view, table_of, tag_of}
use Rattle.walrus_contents.specs.declared.parts.Parts.{Parts}
use Rattle.walrus_groups.specs.Indexed.{AreIndexed}
use Rattle.walrus_items.specs.declared.error.Error.{Error}
use Rattle.walrus_items.specs.declared.error.Error.TheVariants.{Memory}
use Rattle.walrus_items.specs.Data.{DataValue, data_segments}
use Rattle.walrus_items.specs.Elements.{ElementValue, elements}
use Rattle.walrus_items.specs.Exports.{ExportValue, exports}
use Rattle.walrus_items.specs.Globals.{GlobalValue, globals}
use Rattle.walrus_items.specs.Imports.{imports}
use Rattle.walrus_items.specs.Memories.{MemoryValue, memories}
use Rattle.walrus_items.specs.Tables.{TableValue, tables}
use Rattle.walrus_items.specs.Tags.{TagValue, tags}
use Rattle.walrus_model.specs.Abstract as abstract
use Rattle.walrus_model.specs.Sections as said
use Rattle.walrus_plan.specs.Brought.{own_of}
use Rattle.walrus_plan.specs.declared.prepared.Prepared.{Prepared}
use Rattle.walrus_writing.specs.Bodies.{AreWritten}
use Rattle.walrus_writing.specs.Elements.{ChoosesFlag, IsSpelledElement}
use Rattle.walrus_writing.specs.Globals.{IsSpelledGlobal}
use Rattle.walrus_writing.specs.Imported.{IsEntryAt}
use Rattle.walrus_writing.specs.Parts.{export_with_index, memory_limits, tag_index, type_index, unplaced}
use Rattle.walrus_writing.specs.Records.{sections_with}
use Rattle.walrus_writing.specs.Segments.{IsSpelledData}
use Rattle.walrus_writing.specs.Tables.{IsSpelledTable}

-- ---- what is said of the records of a section

-- the imports of these parts are brought by these
abbrev pub AreImports : Parts → Lookup → List RawImport → Type 0
AreImports p names raw = AllZip (IsEntryAt names (parts_view p)) (map (λ e. e.0) (entries (imports p.imports.now))) (map import_entry raw)

-- these tables have these records, and can be spelled
abbrev pub AreTables : Lookup → List TableValue → List RawTable → Type 0
AreTables names all raw =
    (map (λ t. Some (said.table_of (table_entry t))) raw ≡ map (λ t. named_table names (table_of t)) (own_of (λ x. x.imported_by) all))
    × All (λ t. TableStands (table_entry t)) raw
    × All IsSpelledTable (own_of (λ x. x.imported_by) all)

abbrev pub AreMemories : List MemoryValue → List RawLimits → Type 0
AreMemories all raw = (map Some raw ≡ map (λ m. Some (memory_limits (memory_of m))) (own_of (λ x. x.imported_by) all)) × All LimitsStand raw

abbrev pub AreTags : Lookup → List TagValue → List ℕ → Type 0
AreTags names all raw = map Some raw ≡ map (λ t. tag_index names (tag_of t)) (own_of (λ x. x.imported_by) all)

abbrev pub AreGlobals : Lookup → List GlobalValue → List RawGlobal → Type 0
AreGlobals names all raw =
    (map (λ g. Some (said.global_of (global_entry g))) raw ≡ map (λ g. named_global names (global_of g)) (own_of (λ x. x.imported_by) all))
    × All (λ g. GlobalStands (global_entry g)) raw
    × All IsSpelledGlobal (own_of (λ x. x.imported_by) all)

abbrev pub AreExports : Lookup → List ExportValue → List RawExport → Type 0
AreExports names all raw = (map (λ e. Some (export_entry e)) raw ≡ map (λ v. export_with_index names (export_of v)) all) × All (λ e. IsUtf8 e.name.now) raw

-- of element segments, beside these tables
abbrev pub AreElements : Lookup → (ℕ → Option abstract.Table) → List ElementValue → List RawElement → Type 0
AreElements names all_tables all raw =
    (map (λ e. Some (said.element_of (element_entry e))) raw ≡ map (λ e. named_element names (element_of e)) all)
    × All (λ e. ElementStands (element_entry e)) raw
    × All (λ e. ChoosesFlag names all_tables (element_entry e)) raw
    × All IsSpelledElement all

abbrev pub AreSegments : Lookup → List DataValue → List RawData → Type 0
AreSegments names all raw =
    (map (λ d. Some (said.data_of (data_entry d))) raw ≡ map (λ d. named_data names (data_of d)) all)
    × All (λ d. DataStands (data_entry d)) raw
    × All IsSpelledData all

-- ---- what is written

-- the section of some records, of which this is said, stands behind what was there, and it fits
pub record Writes {W E : Type 0} (make : List E → Section) (view : List W → List E) (Said : List W → Type 0) (old new : List ℕ) : Type 0 where
  pub raw : List W
  pub said : Said raw
  pub appends : new ≡ old ++ listed make (view raw)
  pub fits : SectionFits (make (view raw))

-- these sections stand behind what was there
abbrev pub Stand : List ℕ → List ℕ → List Section → Type 0
Stand old new ss = new ≡ old ++ all_spelled ss

-- the sections before the code stand one behind the other behind what was there, and each fits but for the custom sections, of which nothing is
-- said
pub record WritesFront (p : Parts) (names : Lookup) (functions : List ℕ) (start count : Option ℕ) (customs : List wire.Custom) (old new : List ℕ) : Type 0 where
  pub behind_dylinks : List ℕ
  pub dylinks_stand : Stand old behind_dylinks (map CustomSection (group_of Dylink customs))
  pub behind_types : List ℕ
  pub types_stand : Writes Types (λ l. l) (AreIndexed names (items (type_slots p.types.now))) behind_dylinks behind_types
  pub behind_imports : List ℕ
  pub imports_stand : Writes Imports (map import_entry) (AreImports p names) behind_types behind_imports
  pub behind_functions : List ℕ
  pub functions_stand : (behind_functions ≡ behind_imports ++ listed Functions functions) × SectionFits (Functions functions)
  pub behind_tables : List ℕ
  pub tables_stand : Writes Tables (map table_entry) (AreTables names (items (tables p.tables.now))) behind_functions behind_tables
  pub behind_memories : List ℕ
  pub memories_stand : Writes Memories (λ l. l) (AreMemories (items (memories p.memories.now))) behind_tables behind_memories
  pub behind_tags : List ℕ
  pub tags_stand : Writes Tags (λ l. l) (AreTags names (items (tags p.tags.now))) behind_memories behind_tags
  pub behind_globals : List ℕ
  pub globals_stand : Writes Globals (map global_entry) (AreGlobals names (items (globals p.globals.now))) behind_tags behind_globals
  pub behind_exports : List ℕ
  pub exports_stand : Writes Exports (map export_entry) (AreExports names (items (exports p.exports.now))) behind_globals behind_exports
  pub behind_start : List ℕ
  pub start_stands : Stand behind_exports behind_start (if_given Start start) × IfSome start (λ f. SectionFits (Start f))
  pub behind_elements : List ℕ
  pub elements_stand : Writes Elements (map element_entry) (AreElements names (parts_view p).tables (items (elements p.elements.now))) behind_start behind_elements
  pub count_stands : Stand behind_elements new (if_given DataCount count) × IfSome count (λ n. SectionFits (DataCount n))

-- those of the functions of a plan of the parts stand behind the header
pub record IsFront (p : Parts) (prepared : Prepared) (customs : List wire.Custom) (bytes : List ℕ) : Type 0 where
  pub functions : List ℕ
  pub functions_are : map Some functions ≡ map (λ id. option_and_then (type_index (index_of prepared.indices)) ((parts_view p).functions (place id))) prepared.plan.own_functions.items
  pub stand : WritesFront p (index_of prepared.indices) functions (option_and_then (index_of prepared.indices spaces.Functions) (option_map place p.start)) prepared.data_count customs header bytes

-- The code section of these functions, the first of which has this index, stands behind what was there, and it fits; and these are the names of
-- their used locals, where they are chosen.
pub record WritesCode (p : Parts) (names : Lookup) (features : Features) (order : List (Id FunctionKey)) (first : ℕ) (chosen : Bool) (named : List (ℕ × NameMap)) (old new : List ℕ) : Type 0 where
  pub texts : List (List ℕ)
  pub written : AreWritten p names features order first chosen texts named
  pub stands : Stand old new (if_any Code (map unplaced texts)) × SectionFits (Code (map unplaced texts))

-- the sections behind the code stand one behind the other behind what was there, and each fits, all custom sections of the module among them
pub record WritesBack (p : Parts) (names : Lookup) (customs : List wire.Custom) (old new : List ℕ) : Type 0 where
  pub fit : All (λ c. SectionFits (CustomSection c)) customs
  pub behind_segments : List ℕ
  pub segments_stand : Writes DataSegments (map data_entry) (AreSegments names (items (data_segments p.data_.now))) old behind_segments
  pub behind_names : List ℕ
  pub names_stand : Stand behind_segments behind_names (map CustomSection (group_of Names customs))
  pub behind_producers : List ℕ
  pub producers_stand : Stand behind_names behind_producers (map CustomSection (group_of Producers customs))
  pub others_stand : Stand behind_producers new (map CustomSection (group_of Others customs))

-- the records of the sections that only the parts and the indices tell
pub record Told (p : Parts) (names : Lookup) : Type 0 where
  pub types : List Group
  pub types_are : AreIndexed names (items (type_slots p.types.now)) types
  pub imports_raw : List RawImport
  pub imports_are : AreImports p names imports_raw
  pub tables_raw : List RawTable
  pub tables_are : AreTables names (items (tables p.tables.now)) tables_raw
  pub memories_raw : List RawLimits
  pub memories_are : AreMemories (items (memories p.memories.now)) memories_raw
  pub tags_raw : List ℕ
  pub tags_are : AreTags names (items (tags p.tags.now)) tags_raw
  pub globals_raw : List RawGlobal
  pub globals_are : AreGlobals names (items (globals p.globals.now)) globals_raw
  pub exports_raw : List RawExport
  pub exports_are : AreExports names (items (exports p.exports.now)) exports_raw
  pub elements_raw : List RawElement
  pub elements_are : AreElements names (parts_view p).tables (items (elements p.elements.now)) elements_raw
  pub segments_raw : List RawData
  pub segments_are : AreSegments names (items (data_segments p.data_.now)) segments_raw

-- the module of these records and of what else a module has
abbrev pub told_module : {p : Parts} {names : Lookup} → Told p names → List ℕ → Option ℕ → Option ℕ → List wire.Body → List wire.Custom → wire.Module
told_module t functions start count bodies customs =
    sections_with t.types (map import_entry t.imports_raw) functions (map table_entry t.tables_raw) t.memories_raw t.tags_raw (map global_entry t.globals_raw) (map export_entry t.exports_raw) start (map element_entry t.elements_raw) count bodies (map data_entry t.segments_raw) customs

-- all sections of a module stand behind what was there, each with the records that the parts and the indices tell, and each fits
pub record WritesAll (p : Parts) (names : Lookup) (functions : List ℕ) (start count : Option ℕ) (bodies : List wire.Body) (customs : List wire.Custom) (old new : List ℕ) : Type 0 where
  pub told : Told p names
  pub stand : Stand old new (sections_in_order (told_module told functions start count bodies customs))
  pub fit : ModuleFits (told_module told functions start count bodies customs)

-- what is given is so, and nothing but lack of memory is told
abbrev pub GivesOrNone : {X : Type 0} → (X → Type 0) → Result (Option X) Error → Type 0
GivesOrNone P (Ok (Some x)) = P x
GivesOrNone P (Ok None) = ⊤
GivesOrNone P (Err (Memory e)) = ⊤
GivesOrNone P (Err _) = ⊥
