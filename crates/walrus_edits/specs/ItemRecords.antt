-- What is told of a module's items, as values and as bytes: records of a byte, a size and so many bytes.
use Rattle.std.specs.Prelude.{ℕ, List, [], ◌∷◌, ◌++◌, length, Option, Some, None}
use Rattle.walrus.specs.Forms.Spelling.{block_bytes, name_bytes, number_bytes, vector_bytes}
use Rattle.wasm_forms.specs.Types.{reference_bytes}
use Rattle.wasm_forms.specs.Writing.{FitsLength, FitsVector}
use Rattle.wasm_entries.specs.Record.{DataMode, ActiveData, PassiveData, Element, ElementMode, ActiveElements, PassiveElements, DeclaredElements, Export, Expression, Global, Group, Import, Items, Functions, Expressions, Segment, Table}
use Rattle.wasm_entries.specs.Spelling.{DescFits, ExportFits, expression_bytes, export_bytes}
use Rattle.wasm_entries.specs.TypeSpelling.{GroupFits, LimitsFit, global_type_bytes, group_bytes, limits_bytes, table_type_bytes}
use Rattle.wasm_entries.specs.declared.record.RawDesc.{RawDesc}
use Rattle.wasm_entries.specs.declared.record.RawDesc.TheVariants as descs
use Rattle.wasm_entries.specs.declared.record.RawLimits.{RawLimits}
use Rattle.walrus.specs.Frames.Record.{Body, Custom}
use Rattle.walrus_edit_list.specs.declared.numbers.TheConstants.{NAME, PRODUCER, OF_CUSTOM, OF_TYPE, OF_IMPORT, OF_TABLE, OF_MEMORY, OF_GLOBAL, OF_EXPORT, OF_START, OF_ELEMENT, OF_FUNCTION, OF_DATA, OF_TAG}
use Rattle.walrus_edits.specs.declared.records.TheConstants.{LOCAL_NAME}

-- what one record tells: an item of the module, its start function, a custom section by its id, a producer, a name; what an import brings is told
-- behind it
pub data Told : Type 0 where
  AGroup : Group → Told
  AnImport : Import → Told
  Brought : RawDesc → Told
  AFunction : (ty : ℕ) → Body → Told
  ATable : Table → Told
  AMemory : RawLimits → Told
  ATag : (ty : ℕ) → Told
  AGlobal : Global → Told
  AnExport : Export → Told
  TheStart : (function : ℕ) → Told
  AnElement : Element → Told
  ASegment : Segment → Told
  ACustom : (id : ℕ) → Custom → Told
  AProducer : (field name version : List ℕ) → Told
  AName : (what id : ℕ) → (name : List ℕ) → Told
  ALocalName : (function local : ℕ) → (name : List ℕ) → Told

-- what the byte of an import's item is: the id of its section
abbrev pub number_brought : RawDesc → ℕ
number_brought (descs.Function ty) = OF_FUNCTION
number_brought (descs.Table t) = OF_TABLE
number_brought (descs.Memory l) = OF_MEMORY
number_brought (descs.Global g) = OF_GLOBAL
number_brought (descs.Tag ty) = OF_TAG

-- the byte of a record
abbrev pub number_of : Told → ℕ
number_of (AGroup g) = OF_TYPE
number_of (AnImport i) = OF_IMPORT
number_of (Brought d) = number_brought d
number_of (AFunction ty b) = OF_FUNCTION
number_of (ATable t) = OF_TABLE
number_of (AMemory l) = OF_MEMORY
number_of (ATag ty) = OF_TAG
number_of (AGlobal g) = OF_GLOBAL
number_of (AnExport e) = OF_EXPORT
number_of (TheStart f) = OF_START
number_of (AnElement e) = OF_ELEMENT
number_of (ASegment d) = OF_DATA
number_of (ACustom id c) = OF_CUSTOM
number_of (AProducer field name version) = PRODUCER
number_of (AName what id name) = NAME
number_of (ALocalName f x name) = LOCAL_NAME

-- ---- what a record holds

-- a constant expression behind its size
abbrev pub sized : Expression → List ℕ
sized e = block_bytes (expression_bytes e)

-- 1, and the type of what an import brings
abbrev pub brought_bytes : RawDesc → List ℕ
brought_bytes (descs.Function ty) = 1 ∷ number_bytes ty
brought_bytes (descs.Table t) = 1 ∷ table_type_bytes t
brought_bytes (descs.Memory l) = 1 ∷ limits_bytes l
brought_bytes (descs.Global g) = 1 ∷ global_type_bytes g
brought_bytes (descs.Tag ty) = 1 ∷ number_bytes ty

-- the initialiser of a table, where it has one
abbrev pub initial_bytes : Option Expression → List ℕ
initial_bytes None = []
initial_bytes (Some e) = sized e

-- the table of an active segment that names none is table 0
abbrev pub table_of : Option ℕ → ℕ
table_of None = 0
table_of (Some table) = table

-- 0, a table and an offset; 1, passive; 2, declared
abbrev pub element_mode_bytes : ElementMode → List ℕ
element_mode_bytes (ActiveElements table offset) = 0 ∷ (number_bytes (table_of table) ++ sized offset)
element_mode_bytes PassiveElements = 1 ∷ []
element_mode_bytes DeclaredElements = 2 ∷ []

-- 0 and functions; 1, a reference type and expressions
abbrev pub elements_bytes : Items → List ℕ
elements_bytes (Functions fs) = 0 ∷ vector_bytes number_bytes fs
elements_bytes (Expressions ty es) = 1 ∷ (reference_bytes ty ++ vector_bytes sized es)

-- 0, a memory and an offset; 1, passive
abbrev pub data_mode_bytes : DataMode → List ℕ
data_mode_bytes (ActiveData memory offset) = 0 ∷ (number_bytes memory ++ sized offset)
data_mode_bytes PassiveData = 1 ∷ []

-- what a record holds; what the module defines has 0 in front
abbrev pub payload : Told → List ℕ
payload (AGroup g) = group_bytes g
payload (AnImport i) = name_bytes i.from ++ name_bytes i.name
payload (Brought d) = brought_bytes d
payload (AFunction ty b) = 0 ∷ (number_bytes ty ++ number_bytes b.start ++ number_bytes (length b.bytes))
payload (ATable t) = 0 ∷ (table_type_bytes t.ty ++ initial_bytes t.initial)
payload (AMemory l) = 0 ∷ limits_bytes l
payload (ATag ty) = 0 ∷ number_bytes ty
payload (AGlobal g) = 0 ∷ (global_type_bytes g.ty ++ sized g.initial)
payload (AnExport e) = export_bytes e
payload (TheStart f) = number_bytes f
payload (AnElement e) = element_mode_bytes e.mode ++ elements_bytes e.items
payload (ASegment d) = data_mode_bytes d.mode ++ block_bytes d.bytes
payload (ACustom id c) = number_bytes id ++ name_bytes c.name ++ c.bytes
payload (AProducer field name version) = name_bytes field ++ name_bytes name ++ name_bytes version
payload (AName what id name) = what ∷ (number_bytes id ++ name_bytes name)
payload (ALocalName f x name) = number_bytes f ++ number_bytes x ++ name_bytes name

-- a record: its byte, the size of what it holds, and that
abbrev pub told_bytes : Told → List ℕ
told_bytes t = number_of t ∷ block_bytes (payload t)

-- ---- what fits: counts, sizes, and limits that aren't wide, below 2 ^ 32

abbrev pub SizedFits : Expression → Type 0
SizedFits e = FitsLength (expression_bytes e)

abbrev pub InitialFits : Option Expression → Type 0
InitialFits None = Unit {0}
InitialFits (Some e) = SizedFits e

abbrev pub ElementModeFits : ElementMode → Type 0
ElementModeFits (ActiveElements table offset) = SizedFits offset
ElementModeFits PassiveElements = Unit {0}
ElementModeFits DeclaredElements = Unit {0}

abbrev pub ElementsFit : Items → Type 0
ElementsFit (Functions fs) = FitsLength fs
ElementsFit (Expressions ty es) = FitsVector SizedFits es

abbrev pub DataModeFits : DataMode → Type 0
DataModeFits (ActiveData memory offset) = SizedFits offset
DataModeFits PassiveData = Unit {0}

-- what a record holds has counts, sizes and limits that fit
abbrev pub PayloadFits : Told → Type 0
PayloadFits (AGroup g) = GroupFits g
PayloadFits (AnImport i) = FitsLength i.from × FitsLength i.name
PayloadFits (Brought d) = DescFits d
PayloadFits (AFunction ty b) = Unit {0}
PayloadFits (ATable t) = LimitsFit t.ty.limits × InitialFits t.initial
PayloadFits (AMemory l) = LimitsFit l
PayloadFits (ATag ty) = Unit {0}
PayloadFits (AGlobal g) = SizedFits g.initial
PayloadFits (AnExport e) = ExportFits e
PayloadFits (TheStart f) = Unit {0}
PayloadFits (AnElement e) = ElementModeFits e.mode × ElementsFit e.items
PayloadFits (ASegment d) = DataModeFits d.mode × FitsLength d.bytes
PayloadFits (ACustom id c) = FitsLength c.name
PayloadFits (AProducer field name version) = FitsLength field × FitsLength name × FitsLength version
PayloadFits (AName what id name) = FitsLength name
PayloadFits (ALocalName f x name) = FitsLength name

-- a record fits, and all that stands in it
abbrev pub ToldFits : Told → Type 0
ToldFits t = PayloadFits t × FitsLength (payload t)
