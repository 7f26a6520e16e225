-- What a module is written as: the entries of its sections, and these sections in the order in which they stand ("Binary Format >
-- Modules").
use Rattle.std.specs.Prelude.{ℕ, List, [], ◌∷◌, ◌++◌, map, flat_map, replicate, Option, Some, None, codes}
use Rattle.wasm_forms.specs.declared.types.RawVal.{RawVal}
use Rattle.wasm_forms.specs.Spelling.{row_bytes, vector_bytes}
use Rattle.wasm_entries.specs.declared.record.RawLimits.{RawLimits}
use Rattle.wasm_entries.specs.Record.{Group, Import, Table, Global, Export, Element, Segment}
use Rattle.wasm_frames.specs.Record.{Custom}
use Rattle.wasm_frames.specs.Record as wire
use Rattle.wasm_frames.specs.Frames as frames
use Rattle.wasm_frames.specs.Frames.{Section, CustomSection, gathered}
use Rattle.wasm_operators.specs.Operators as wire_operators
use Rattle.wasm_operators.specs.Spelling.{op_bytes}
use Rattle.wasm_payloads.specs.declared.naming.NameSpace.{NameSpace}
use Rattle.wasm_payloads.specs.declared.naming.NameSpace.TheVariants as spaces
use Rattle.wasm_payloads.specs.Names.{Named, ModuleName, ItemName, LocalName}
use Rattle.wasm_payloads.specs.Producers.{Field}
use Rattle.wasm_payloads.specs.Spelling as spelled
-- names have the one spelling of their payload
pub use Rattle.wasm_payloads.specs.Spelling.{NameMap, NameText, entry_bytes, map_bytes, function_bytes, part_bytes, module_name_bytes, space_bytes, further_spaces, names_bytes}
use Rattle.walrus_code.specs.FromRaw.{val_of, ops_of}
use Rattle.walrus_model.specs.EmittedBody.{declarations_bytes}
use Rattle.walrus_model.specs.Abstract.{Abstract, Name, ProducerValue, ProducerField}
use Rattle.walrus_model.specs.Sections.{Said}
use Rattle.walrus_theorem.specs.Sections.{module_of}

-- ---- bodies: declarations, each a count and a type, and operators

-- a function's body in the terms of the binary format: its declarations of locals, each a count and a type, and its operators (Code Section)
pub record BodyText : Type 0 where
  pub declarations : List (ℕ × RawVal)
  pub operators : List wire_operators.Op

-- the bytes of a body: the list of its declarations, and behind it its operators; the size that stands in front of them is not among them
abbrev pub text_bytes : BodyText → List ℕ
text_bytes t = declarations_bytes t.declarations ++ row_bytes op_bytes t.operators

-- what a body says: the types of the locals that it declares, one for each, and its operators
abbrev pub said : BodyText → Said
said t = (flat_map (λ d. replicate d.0 (val_of d.1)) t.declarations, ops_of t.operators)

-- a body of these bytes; where it stands in the module is left out
abbrev pub unplaced : BodyText → wire.Body
unplaced t = record { start = 0; bytes = text_bytes t }

-- ---- what a name section names, in the order of its one spelling ("Appendix > Custom Sections > Name Section")

-- the module's name as a naming, or none where it has no name
abbrev pub module_naming : Option Name → List Named
module_naming None = []
module_naming (Some name) = ModuleName name ∷ []

-- for each entry of the name map of an index space, that this item has this name
abbrev pub space_namings : NameText → NameSpace → List Named
space_namings t space = map (λ e. ItemName space e.0 e.1) (t.items space)

-- for each entry of the name map of a function's locals, that this local has this name
abbrev pub function_namings : ℕ × NameMap → List Named
function_namings f = map (λ e. LocalName f.0 e.0 e.1) f.1

-- all that a name section names: the module, the functions, the locals of functions, and then the items of the other index spaces
abbrev pub namings_of : NameText → List Named
namings_of t = module_naming t.module_name ++ space_namings t spaces.Functions ++ flat_map function_namings t.locals ++ flat_map (space_namings t) further_spaces

-- ---- producers (tool-conventions, "Producers Section")

-- a value and a field as their payload has them
abbrev pub raw_value : ProducerValue → List ℕ × List ℕ
raw_value v = (v.name, v.version)

-- a field as its payload has it: its name, and its values
abbrev pub raw_field : ProducerField → Field
raw_field f = (f.name, map raw_value f.values)

-- the one spelling of a field of the producers section
abbrev pub field_bytes : ProducerField → List ℕ
field_bytes f = spelled.field_bytes (raw_field f)

-- ---- the whole

-- a module before it is bytes: the entries of each section, what the name and the producers section say, and the custom sections of dynamic linking and
-- the others
pub record Text : Type 0 where
  pub dylinks : List Custom
  pub types : List Group
  pub imports : List Import
  pub functions : List ℕ
  pub tables : List Table
  pub memories : List RawLimits
  pub tags : List ℕ
  pub globals : List Global
  pub exports : List Export
  pub start : Option ℕ
  pub elements : List Element
  pub data_count : Option ℕ
  pub bodies : List BodyText
  pub data_segments : List Segment
  pub names : NameText
  pub producers : List ProducerField
  pub others : List Custom

-- the section of a list, of a number, or of bytes under a name, which isn't written where there is nothing

-- the section of these entries, or of these bytes, or no section where there are none
abbrev pub listed : {A : Type 0} → (List A → Section) → List A → List Section
listed make [] = []
listed make (x ∷ xs) = make (x ∷ xs) ∷ []

-- the section that holds this number alone, or no section where there is none (the start function, the data count)
abbrev pub if_some : (ℕ → Section) → Option ℕ → List Section
if_some make None = []
if_some make (Some n) = make n ∷ []

-- a custom section of this name and with these bytes, even where there are none
abbrev pub custom : Name → List ℕ → Section
custom name bytes = CustomSection (record { name = name; bytes = bytes })

-- dynamic linking; what isn't custom, in the standard's order; names; producers; and all other custom sections
abbrev pub sections_of : Text → List Section
sections_of t = map CustomSection t.dylinks
    ++ listed frames.Types t.types
    ++ listed frames.Imports t.imports
    ++ listed frames.Functions t.functions
    ++ listed frames.Tables t.tables
    ++ listed frames.Memories t.memories
    ++ listed frames.Tags t.tags
    ++ listed frames.Globals t.globals
    ++ listed frames.Exports t.exports
    ++ if_some frames.Start t.start
    ++ listed frames.Elements t.elements
    ++ if_some frames.DataCount t.data_count
    ++ listed frames.Code (map unplaced t.bodies)
    ++ listed frames.DataSegments t.data_segments
    ++ listed (λ bytes. custom (codes "name") bytes) (names_bytes t.names)
    ++ listed (λ fields. custom (codes "producers") (vector_bytes field_bytes fields)) t.producers
    ++ map CustomSection t.others

-- the module that it says
abbrev pub said_by : Text → Abstract
said_by t = module_of (gathered (sections_of t)) (map said t.bodies) t.producers (namings_of t.names)
