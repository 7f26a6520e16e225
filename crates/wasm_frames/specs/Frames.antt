-- The bytes of a module: a header, and sections up to their end.
use Rattle.std.specs.Prelude.{◌≡◌, ℕ, ◌+◌, List, [], ◌∷◌, ◌++◌, length, Some}
use Rattle.wasm_forms.specs.Number.{IsU32}
use Rattle.wasm_forms.specs.Grammar.{Is, Vector, U32, name}
use Rattle.wasm_entries.specs.declared.record.RawLimits.{RawLimits}
use Rattle.wasm_entries.specs.Record.{Group, Import, Table, Global, Export, Element, Segment}
use Rattle.wasm_entries.specs.TypeForms.{group_form, memory_type, tag_type}
use Rattle.wasm_entries.specs.Forms.{import_form, table_form, global_form, export_form, element_form, data_form}
use Rattle.wasm_frames.specs.Record.{Body, Custom, Module, no_sections}

-- a section's records, by the kind of section (Binary Format > Modules > Sections)
pub data Section : Type 0 where
  CustomSection : Custom → Section
  Types : List Group → Section
  Imports : List Import → Section
  Functions : List ℕ → Section
  Tables : List Table → Section
  Memories : List RawLimits → Section
  Globals : List Global → Section
  Exports : List Export → Section
  Start : ℕ → Section
  Elements : List Element → Section
  Code : List Body → Section
  DataSegments : List Segment → Section
  DataCount : ℕ → Section
  Tags : List ℕ → Section

-- the id that begins a section of this kind
abbrev pub id_of : Section → ℕ
id_of (CustomSection c) = 0
id_of (Types gs) = 1
id_of (Imports is) = 2
id_of (Functions fs) = 3
id_of (Tables ts) = 4
id_of (Memories ms) = 5
id_of (Globals gs) = 6
id_of (Exports es) = 7
id_of (Start f) = 8
id_of (Elements es) = 9
id_of (Code bs) = 10
id_of (DataSegments ds) = 11
id_of (DataCount n) = 12
id_of (Tags ts) = 13

-- a name, and all bytes behind it (Custom Section)
pub record IsCustom (bytes : List ℕ) (c : Custom) : Type 0 where
  pub front : List ℕ
  pub spelled : bytes ≡ front ++ c.bytes
  pub named : Is name front c.name

-- a body at this place: the count of its bytes, and these
pub record IsBody (place : ℕ) (bytes : List ℕ) (b : Body) : Type 0 where
  pub size : List ℕ
  pub spelled : bytes ≡ size ++ b.bytes
  pub sized : IsU32 size (length b.bytes)
  pub starts : b.start ≡ place + length size

-- bodies one after another, the first at this place
abbrev pub AreBodies : ℕ → List ℕ → List Body → Type 0
AreBodies place bytes [] = bytes ≡ []
AreBodies place bytes (b ∷ bs) = (front : List ℕ) × ((back : List ℕ) × ((bytes ≡ front ++ back) × IsBody place front b × AreBodies (place + length front) back bs))

-- the count of the bodies, and these (Code Section)
pub record IsCode (place : ℕ) (bytes : List ℕ) (bs : List Body) : Type 0 where
  pub count : List ℕ
  pub row : List ℕ
  pub spelled : bytes ≡ count ++ row
  pub counted : IsU32 count (length bs)
  pub bodies : AreBodies (place + length count) row bs

-- the content of a section, the whole of it, from this place on
abbrev pub IsContent : ℕ → List ℕ → Section → Type 0
IsContent place bytes (CustomSection c) = IsCustom bytes c
IsContent place bytes (Types gs) = Is (Vector group_form) bytes gs
IsContent place bytes (Imports is) = Is (Vector import_form) bytes is
IsContent place bytes (Functions fs) = Is (Vector U32) bytes fs
IsContent place bytes (Tables ts) = Is (Vector table_form) bytes ts
IsContent place bytes (Memories ms) = Is (Vector memory_type) bytes ms
IsContent place bytes (Globals gs) = Is (Vector global_form) bytes gs
IsContent place bytes (Exports es) = Is (Vector export_form) bytes es
IsContent place bytes (Start f) = Is U32 bytes f
IsContent place bytes (Elements es) = Is (Vector element_form) bytes es
IsContent place bytes (Code bs) = IsCode place bytes bs
IsContent place bytes (DataSegments ds) = Is (Vector data_form) bytes ds
IsContent place bytes (DataCount n) = Is U32 bytes n
IsContent place bytes (Tags ts) = Is (Vector tag_type) bytes ts

-- a section at this place: its id, the count of its content's bytes, and these
pub record IsSection (place : ℕ) (bytes : List ℕ) (s : Section) : Type 0 where
  pub size : List ℕ
  pub content : List ℕ
  pub spelled : bytes ≡ id_of s ∷ (size ++ content)
  pub sized : IsU32 size (length content)
  pub used : IsContent (place + 1 + length size) content s

-- sections one after another, the first at this place
abbrev pub AreSections : ℕ → List ℕ → List Section → Type 0
AreSections place bytes [] = bytes ≡ []
AreSections place bytes (s ∷ ss) = (front : List ℕ) × ((back : List ℕ) × ((bytes ≡ front ++ back) × IsSection place front s × AreSections (place + length front) back ss))

-- the module with one section more: the id of one that isn't custom is the last one, and its records follow the earlier
-- ones; a later start or data count takes the place of an earlier one (no module that keeps the rules has two)
abbrev pub with_section : Module → Section → Module
with_section m (CustomSection c) = record m { customs = m.customs ++ c ∷ [] }
with_section m (Types gs) = record m { order = m.order ++ 1 ∷ []; types = m.types ++ gs }
with_section m (Imports is) = record m { order = m.order ++ 2 ∷ []; imports = m.imports ++ is }
with_section m (Functions fs) = record m { order = m.order ++ 3 ∷ []; functions = m.functions ++ fs }
with_section m (Tables ts) = record m { order = m.order ++ 4 ∷ []; tables = m.tables ++ ts }
with_section m (Memories ms) = record m { order = m.order ++ 5 ∷ []; memories = m.memories ++ ms }
with_section m (Globals gs) = record m { order = m.order ++ 6 ∷ []; globals = m.globals ++ gs }
with_section m (Exports es) = record m { order = m.order ++ 7 ∷ []; exports = m.exports ++ es }
with_section m (Start f) = record m { order = m.order ++ 8 ∷ []; start = Some f }
with_section m (Elements es) = record m { order = m.order ++ 9 ∷ []; elements = m.elements ++ es }
with_section m (Code bs) = record m { order = m.order ++ 10 ∷ []; bodies = m.bodies ++ bs }
with_section m (DataSegments ds) = record m { order = m.order ++ 11 ∷ []; data_segments = m.data_segments ++ ds }
with_section m (DataCount n) = record m { order = m.order ++ 12 ∷ []; data_count = Some n }
with_section m (Tags ts) = record m { order = m.order ++ 13 ∷ []; tags = m.tags ++ ts }

-- the module with these sections more, from left to right
abbrev pub gathered_onto : Module → List Section → Module
gathered_onto m [] = m
gathered_onto m (s ∷ ss) = gathered_onto (with_section m s) ss

-- what these sections hold
abbrev pub gathered : List Section → Module
gathered ss = gathered_onto no_sections ss

-- the magic number and the version (Binary Format > Modules)
abbrev pub header : List ℕ
header = 0x00 ∷ 0x61 ∷ 0x73 ∷ 0x6D ∷ 0x01 ∷ 0x00 ∷ 0x00 ∷ 0x00 ∷ []

-- the bytes are a module that holds this: the header, and behind it sections that hold this and use all that is left
pub record Frames (bytes : List ℕ) (m : Module) : Type 0 where
  pub rest : List ℕ
  pub parts : List Section
  pub headed : bytes ≡ header ++ rest
  pub framed : AreSections 8 rest parts
  pub holds : m ≡ gathered parts

-- no bytes are a module that holds two different things
abbrev pub HasOneRecord : Type 0
HasOneRecord = (bytes : List ℕ) (m n : Module) → Frames bytes m → Frames bytes n → m ≡ n
