-- The records of the sections that a module's parts are written as, and their bytes.
use Rattle.wasm_entries.specs.Record as entries
use Rattle.wasm_entries.specs.declared.record.RawLimits.{RawLimits}
use Rattle.wasm_frames.specs.Record as wire
use Rattle.std.specs.Prelude.{ℕ, ◌-◌, List, [], ◌∷◌, ◌++◌, Option, Some, All, Contains, filter_map, length, map, option_and_then, option_map, ◌≡◌, ◌≢◌, ◌<◌, ◌^◌}
use Rattle.std.specs.List.{AllZip}
use Rattle.std.specs.Str.{IsUtf8}
use Rattle.wasm_entries.specs.Record.{Group}
use Rattle.wasm_entries.specs.Spelling.{DataStands, ElementStands, GlobalStands, TableStands}
use Rattle.wasm_entries.specs.TypeSpelling.{GroupStands, LimitsStand}
use Rattle.wasm_wire.specs.ModuleSpelling.{ModuleFits, module_bytes}
use Rattle.walrus_base.specs.Operators.{Space, Types, Functions, Tables, Memories, Tags, Globals, Elements, DataSegments}
use Rattle.walrus_code.specs.Indices.{index_of}
use Rattle.walrus_code.specs.Names.{Lookup}
use Rattle.walrus_code.specs.declared.numbering.IdsToIndices.{IdsToIndices}
use Rattle.walrus_base.specs.Id.{place}
use Rattle.walrus_bodies.specs.declared.features.Features.{Features}
use Rattle.walrus_groups.specs.Groups.{types_from}
use Rattle.walrus_groups.specs.Named.{named_def}
use Rattle.walrus_constants.specs.Named.{named_global, named_table}
use Rattle.walrus_constants.specs.Segments.{named_data, named_element}
use Rattle.walrus_contents.specs.View.{parts_view}
use Rattle.walrus_contents.specs.declared.parts.Parts.{Parts}
use Rattle.walrus_model.specs.Abstract.{Abstract, DataSegment, Defined, Element, Global, Memory, Table, Tag}
use Rattle.walrus_model.specs.Imported.{import_number}
use Rattle.walrus_model.specs.Plan.{AreNumbered, IsPlan, Plan}
use Rattle.walrus_model.specs.Sections.{data_of, element_of, global_of, table_of}
use Rattle.walrus_model.specs.Spaces.{Thing, look}
use Rattle.walrus_model.specs.WellMade.{ImportsMatch}
use Rattle.walrus_theorem.specs.Examples.{empty_text}
use Rattle.walrus_theorem.specs.Spelling.{IsCount}
use Rattle.walrus_theorem.specs.Text.{BodyText, NameText, Text}
use Rattle.walrus_writing.specs.Names.{first_own, if_chosen, names_said}
use Rattle.walrus_writing.specs.Bodies.{AreBodies, texts_of}
use Rattle.walrus_writing.specs.Customs.{AreSpelled, Task, chosen_producers, sections_made}
use Rattle.walrus_writing.specs.Elements.{ChoosesFlag, ElementIsUnspelled}
use Rattle.walrus_writing.specs.Globals.{GlobalIsUnspelled}
use Rattle.walrus_plan.specs.Brought.{import_numbers}
use Rattle.walrus_plan.specs.Places.{places}
use Rattle.walrus_plan.specs.Prepared.{IsPrepared}
use Rattle.walrus_plan.specs.declared.prepared.Prepared.{Prepared}
use Rattle.walrus_writing.specs.Imported.{IsEntryAt}
use Rattle.walrus_writing.specs.Parts.{BodySeen, type_index, memory_limits, tag_index, export_with_index, HasBytes, unplaced, used_locals}
use Rattle.walrus_plan.specs.Reads.{ReadsInOrder}
use Rattle.walrus_writing.specs.Segments.{DataIsUnspelled}
use Rattle.walrus_writing.specs.Tables.{TableIsUnspelled}
use Rattle.walrus_writing.specs.declared.write.Choices.{Choices}
use Rattle.walrus_writing.specs.declared.write.Made.{Made}

-- the things of a space, in the order of the plan, have these records
abbrev pub AreRecords : {W : Type 0} → Abstract → Plan → (s : Space) → (Thing s → Option W) → List W → Type 0
AreRecords v plan s raw ws = map Some ws ≡ map (λ i. option_and_then raw (look v s i)) (plan s)

-- no import brings the items of these places
pub record AreDefined (v : Abstract) (own : Plan) : Type 0 where
  pub tables : (i : ℕ) (t : Table) → Contains (own Tables) i → v.tables i ≡ Some t → t.origin ≡ Defined
  pub memories : (i : ℕ) (m : Memory) → Contains (own Memories) i → v.memories i ≡ Some m → m.origin ≡ Defined
  pub tags : (i : ℕ) (t : Tag) → Contains (own Tags) i → v.tags i ≡ Some t → t.origin ≡ Defined
  pub globals : (i : ℕ) (g : Global) → Contains (own Globals) i → v.globals i ≡ Some g → g.origin ≡ Defined

-- The records, entry by entry, of what a module holds, under the indices that a plan of it gives: in each space first what imports bring, in
-- their order, and then the module's own.
pub record Records (p : Parts) (features : Features) : Type 0 where
  pub names : Lookup
  pub plan : Plan
  pub is_plan : IsPlan (parts_view p) plan
  pub numbered : AreNumbered names plan
  pub few : (s : Space) → length (plan s) < 2 ^ 32
  pub matched : ImportsMatch (parts_view p)
  pub own : Plan
  pub defined : AreDefined (parts_view p) own
  pub parted : (s : Space) → plan s ≡ filter_map (import_number (parts_view p) s) (import_numbers p) ++ own s
  pub imports : List entries.Import
  pub imports_are : AllZip (IsEntryAt names (parts_view p)) (import_numbers p) imports
  pub types : List Group
  pub types_are : AreRecords (parts_view p) plan Types (named_def names) (types_from 0 types)
  pub none_empty : All (λ g. g ≢ []) types
  pub types_stand : All GroupStands types
  pub functions : List ℕ
  pub functions_are : AreRecords (parts_view p) own Functions (type_index names) functions
  pub bodies : List (List ℕ)
  pub bodies_are : AllZip (HasBytes p names features) (own Functions) bodies
  pub reads : ReadsInOrder (parts_view p)
  pub tables : List entries.Table
  pub tables_are : AreRecords (parts_view p) own Tables (named_table names) (map table_of tables)
  pub tables_stand : All TableStands tables
  pub tables_spelled : (i : ℕ) (t : Table) → (parts_view p).tables i ≡ Some t → TableIsUnspelled t → ⊥
  pub memories : List RawLimits
  pub memories_are : AreRecords (parts_view p) own Memories (λ m. Some (memory_limits m)) memories
  pub memories_stand : All LimitsStand memories
  pub tags : List ℕ
  pub tags_are : AreRecords (parts_view p) own Tags (tag_index names) tags
  pub globals : List entries.Global
  pub globals_are : AreRecords (parts_view p) own Globals (named_global names) (map global_of globals)
  pub globals_stand : All GlobalStands globals
  pub globals_spelled : (i : ℕ) (g : Global) → (parts_view p).globals i ≡ Some g → GlobalIsUnspelled g → ⊥
  pub exports : List entries.Export
  pub exports_are : map Some exports ≡ map (export_with_index names) (parts_view p).exports
  pub texts : All (λ e. IsUtf8 e.name) exports
  pub start : Option ℕ
  pub start_is : option_map Some start ≡ option_map (names Functions) (parts_view p).start
  pub elements : List entries.Element
  pub elements_are : AreRecords (parts_view p) plan Elements (named_element names) (map element_of elements)
  pub elements_stand : All ElementStands elements
  pub elements_chosen : All (ChoosesFlag names (parts_view p).tables) elements
  pub elements_spelled : (i : ℕ) (e : Element) → (parts_view p).elements i ≡ Some e → ElementIsUnspelled e → ⊥
  pub data_segments : List entries.Segment
  pub data_segments_are : AreRecords (parts_view p) plan DataSegments (named_data names) (map data_of data_segments)
  pub data_segments_stand : All DataStands data_segments
  pub data_segments_spelled : (i : ℕ) (d : DataSegment) → (parts_view p).data_segments i ≡ Some d → DataIsUnspelled d → ⊥
  pub data_count : Option ℕ
  pub counted : IsCount (parts_view p) (length data_segments) data_count

-- the text of each body
abbrev pub texts_in : (p : Parts) (names : Lookup) (features : Features) (order : List ℕ) (bodies : List (List ℕ)) → AllZip (HasBytes p names features) order bodies → List BodyText
texts_in p names features [] [] a = []
texts_in p names features (i ∷ is) (b ∷ bs) a = record { declarations = a.0.written.declarations; operators = a.0.written.texts } ∷ texts_in p names features is bs a.1
texts_in p names features [] (b ∷ bs) a = elim a [ ]
texts_in p names features (i ∷ is) [] a = elim a [ ]

-- the used locals of each body
abbrev pub used_in : (p : Parts) (names : Lookup) (features : Features) (order : List ℕ) (bodies : List (List ℕ)) → AllZip (HasBytes p names features) order bodies → List (List (ℕ × ℕ))
used_in p names features [] [] a = []
used_in p names features (i ∷ is) (b ∷ bs) a = used_locals a.0 ∷ used_in p names features is bs a.1
used_in p names features [] (b ∷ bs) a = elim a [ ]
used_in p names features (i ∷ is) [] a = elim a [ ]

-- the names that are written, where these are chosen
abbrev pub names_written : {p : Parts} {features : Features} → Records p features → Choices → NameText
names_written {p} {features} r choices = if_chosen choices.names (names_said p r.plan (length (r.plan Functions) - length (r.own Functions)) (used_in p r.names features (r.own Functions) r.bodies r.bodies_are))

-- all custom sections that are written
abbrev pub customs_written : {p : Parts} (t : Task) → Records p t.choices.features → List wire.Custom
customs_written {p} t r = t.sections ++ sections_made (names_written r t.choices) (chosen_producers p t.choices)

-- the text made of the records, which says nothing in custom sections
abbrev pub text_of : {p : Parts} {features : Features} → Records p features → Text
text_of {p} {features} r = record empty_text {
  types = r.types;
  imports = r.imports;
  functions = r.functions;
  tables = r.tables;
  memories = r.memories;
  tags = r.tags;
  globals = r.globals;
  exports = r.exports;
  start = r.start;
  elements = r.elements;
  data_count = r.data_count;
  data_segments = r.data_segments;
  bodies = texts_in p r.names features (r.own Functions) r.bodies r.bodies_are;
}

-- a module of these sections
abbrev pub sections_with : List Group → List entries.Import → List ℕ → List entries.Table → List RawLimits → List ℕ → List entries.Global → List entries.Export → Option ℕ → List entries.Element → Option ℕ → List wire.Body → List entries.Segment → List wire.Custom → wire.Module
sections_with types imports functions tables memories tags globals exports start elements data_count bodies data_segments customs = record wire.no_sections { types = types; imports = imports; functions = functions; tables = tables; memories = memories; tags = tags; globals = globals; exports = exports; start = start; elements = elements; data_count = data_count; bodies = bodies; data_segments = data_segments; customs = customs }

-- the module of these records, with these custom sections
abbrev pub module_of : {p : Parts} {features : Features} → Records p features → List wire.Custom → wire.Module
module_of r customs = sections_with r.types r.imports r.functions r.tables r.memories r.tags r.globals r.exports r.start r.elements r.data_count (map unplaced r.bodies) r.data_segments customs

-- what is made of the plan of parts for sections that lend it: the bodies, and the payloads of the chosen custom sections
abbrev pub IsMade : Parts → Prepared → Choices → Made → Type 0
IsMade p prepared choices made =
    (bodies : List BodySeen) × (AreBodies p (index_of prepared.indices) choices.features prepared.plan.own_functions.items bodies
    × (texts_of made.bodies ≡ map (λ b. b.bytes) bodies)
    × AreSpelled (if_chosen choices.names (names_said p (places prepared.plan) (first_own prepared.plan) (map (λ b. b.used) bodies))) (chosen_producers p choices) made.payloads)

-- a plan with these indices, and this count of data segments
abbrev pub planned_with : Prepared → IdsToIndices → Option ℕ → Prepared
planned_with prepared indices count = record prepared { indices = indices; data_count = count }

-- some plan of the parts gives the indices and the count
abbrev pub HasPlan : Parts → IdsToIndices → Option ℕ → Type 0
HasPlan p indices count = (prepared : Prepared) × IsPrepared p (planned_with prepared indices count)

-- the indices of the functions' types, and what is made, are those of a plan of the parts that gives the indices and the count
pub record FollowPlan (p : Parts) (indices : IdsToIndices) (count : Option ℕ) (choices : Choices) (functions : List ℕ) (made : Made) : Type 0 where
  pub prepared : Prepared
  pub planned : IsPrepared p (planned_with prepared indices count)
  pub functions_are : map Some functions ≡ map (λ id. option_and_then (type_index (index_of indices)) ((parts_view p).functions (place id))) prepared.plan.own_functions.items
  pub are_made : IsMade p (planned_with prepared indices count) choices made

-- the module is that of records with its custom sections, its own functions in this order
pub record IsModuleOf (p : Parts) (t : Task) (order : List ℕ) (made : wire.Module) : Type 0 where
  pub records : Records p t.choices.features
  pub names_are : records.names ≡ t.names
  pub order_is : records.own Functions ≡ order
  pub is : made ≡ module_of records (customs_written t records)

-- the bytes are those of the module of records with its custom sections, which fits
pub record Spells (p : Parts) (t : Task) (bytes : List ℕ) : Type 0 where
  pub records : Records p t.choices.features
  pub names_are : records.names ≡ t.names
  pub fit : ModuleFits (module_of records (customs_written t records))
  pub are : bytes ≡ module_bytes (module_of records (customs_written t records))

-- a count or a size in the sections passes 32 bits
pub record DoesNotFit (p : Parts) (t : Task) : Type 0 where
  pub records : Records p t.choices.features
  pub names_are : records.names ≡ t.names
  pub too_large : ModuleFits (module_of records (customs_written t records)) → ⊥
