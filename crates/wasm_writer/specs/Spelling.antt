-- The one spelling of sections, and which of them it spells.
use Rattle.std.specs.Prelude.{ℕ, ◌+◌, ⊤, List, [], ◌∷◌, ◌++◌, length, All, Option, Some, None}
use Rattle.std.specs.Str.{IsUtf8}
use Rattle.std.specs.declared.ops.Range.{Range}
use Rattle.wasm_forms.specs.Writing.{FitsLength, FitsVector}
use Rattle.wasm_forms.specs.Spelling.{number_bytes, block_bytes, vector_bytes}
use Rattle.wasm_entries.specs.TypeSpelling.{group_bytes, limits_bytes, GroupFits, LimitsFit, GroupStands, LimitsStand}
use Rattle.wasm_entries.specs.Spelling.{import_bytes, table_bytes, global_bytes, export_bytes, element_bytes, data_bytes, ImportFits, TableFits, ExportFits, ElementFits, DataFits, IsIndex, ImportStands, TableStands, GlobalStands, ExportStands, ElementStands, DataStands}
use Rattle.wasm_frames.specs.Record.{Body}
use Rattle.wasm_frames.specs.Spelling.{custom_bytes, body_bytes}
use Rattle.wasm_frames.specs.Frames.{Section, CustomSection, Types, Imports, Functions, Tables, Memories, Globals, Exports, Start, Elements, Code, DataSegments, DataCount, Tags, id_of, header, gathered, Frames}

-- ---- the content of a section (Binary Format > Modules)

-- 00 and the index of a type
abbrev pub tag_bytes : ℕ → List ℕ
tag_bytes t = 0 ∷ number_bytes t

-- what a section holds as it is written, without the section's id and size
abbrev pub content_bytes : Section → List ℕ
content_bytes (CustomSection c) = custom_bytes c
content_bytes (Types gs) = vector_bytes group_bytes gs
content_bytes (Imports is) = vector_bytes import_bytes is
content_bytes (Functions fs) = vector_bytes number_bytes fs
content_bytes (Tables ts) = vector_bytes table_bytes ts
content_bytes (Memories ms) = vector_bytes limits_bytes ms
content_bytes (Globals gs) = vector_bytes global_bytes gs
content_bytes (Exports es) = vector_bytes export_bytes es
content_bytes (Start f) = number_bytes f
content_bytes (Elements es) = vector_bytes element_bytes es
content_bytes (Code bs) = vector_bytes body_bytes bs
content_bytes (DataSegments ds) = vector_bytes data_bytes ds
content_bytes (DataCount n) = number_bytes n
content_bytes (Tags ts) = vector_bytes tag_bytes ts

-- a section's id, the count of its content's bytes, and these
abbrev pub section_bytes : ℕ → List ℕ → List ℕ
section_bytes id content = id ∷ block_bytes content

-- a whole section as it is written: its id, the size of its content, and the content (Binary Format > Modules > Sections)
abbrev pub spelled : Section → List ℕ
spelled s = section_bytes (id_of s) (content_bytes s)

-- the section that lists these, which isn't written where there is none
abbrev pub listed : {A : Type 0} → (List A → Section) → List A → List ℕ
listed make [] = []
listed make (x ∷ xs) = spelled (make (x ∷ xs))

-- the section of this number, which isn't written where there is none
abbrev pub if_some : (ℕ → Section) → Option ℕ → List ℕ
if_some make None = []
if_some make (Some n) = spelled (make n)

-- sections one after another
abbrev pub all_spelled : List Section → List ℕ
all_spelled [] = []
all_spelled (s ∷ ss) = spelled s ++ all_spelled ss

-- ---- what fits: counts, sizes, and limits that aren't wide, below 2 ^ 32

-- the section's content can be counted: each count and each size within it, and each limit that isn't wide, is below 2 ^ 32
abbrev pub EntriesFit : Section → Type 0
EntriesFit (CustomSection c) = FitsLength c.name
EntriesFit (Types gs) = FitsVector GroupFits gs
EntriesFit (Imports is) = FitsVector ImportFits is
EntriesFit (Functions fs) = FitsLength fs
EntriesFit (Tables ts) = FitsVector TableFits ts
EntriesFit (Memories ms) = FitsVector LimitsFit ms
EntriesFit (Globals gs) = FitsLength gs
EntriesFit (Exports es) = FitsVector ExportFits es
EntriesFit (Start f) = ⊤
EntriesFit (Elements es) = FitsVector ElementFits es
EntriesFit (Code bs) = FitsVector (λ b. FitsLength b.bytes) bs
EntriesFit (DataSegments ds) = FitsVector DataFits ds
EntriesFit (DataCount n) = ⊤
EntriesFit (Tags ts) = FitsLength ts

-- each count, each size and each limit that isn't wide, and the size of the section's content, is below 2 ^ 32
abbrev pub SectionFits : Section → Type 0
SectionFits s = EntriesFit s × FitsLength (content_bytes s)

-- ---- what is spelled at all: numbers in the range of their kind, names that are text, expressions that aren't empty

-- what the section holds has a spelling: numbers are in the range of their kind, names are UTF-8, expressions aren't empty, and
-- expressions for table 0 by default are funcrefs; of plain bytes, such as function bodies, nothing is asked
abbrev pub SectionStands : Section → Type 0
SectionStands (CustomSection c) = IsUtf8 c.name
SectionStands (Types gs) = All GroupStands gs
SectionStands (Imports is) = All ImportStands is
SectionStands (Functions fs) = All IsIndex fs
SectionStands (Tables ts) = All TableStands ts
SectionStands (Memories ms) = All LimitsStand ms
SectionStands (Globals gs) = All GlobalStands gs
SectionStands (Exports es) = All ExportStands es
SectionStands (Start f) = IsIndex f
SectionStands (Elements es) = All ElementStands es
SectionStands (Code bs) = ⊤
SectionStands (DataSegments ds) = All DataStands ds
SectionStands (DataCount n) = IsIndex n
SectionStands (Tags ts) = All IsIndex ts

abbrev pub CanBeWritten : Section → Type 0
CanBeWritten s = SectionFits s × SectionStands s

-- ---- what is written reads back

-- these bodies, each where it starts if they are written one after another from this place on
abbrev pub placed_bodies : ℕ → List Body → List Body
placed_bodies place [] = []
placed_bodies place (b ∷ bs) = record { start = place + length (number_bytes (length b.bytes)); bytes = b.bytes } ∷ placed_bodies (place + length (body_bytes b)) bs

-- the place of the first body of a section that stands at this place: behind its id, its size and the count of bodies
abbrev pub first_body : ℕ → List Body → ℕ
first_body place bs = place + 1 + length (number_bytes (length (content_bytes (Code bs)))) + length (number_bytes (length bs))

-- the place of the count of bodies of a section that stands at this place: behind its id and its size, or 0 where none is written
abbrev pub count_place : ℕ → List Body → ℕ
count_place place [] = 0
count_place place (b ∷ bs) = place + 1 + length (number_bytes (length (content_bytes (Code (b ∷ bs)))))

-- from where a body starts to where it ends
abbrev pub range_of : Body → Range ℕ
range_of b = record { start = b.start; end = b.start + length b.bytes }

-- a section as it reads where it is written at this place
abbrev pub placed : ℕ → Section → Section
placed place (Code bs) = Code (placed_bodies (first_body place bs) bs)
placed place s = s

abbrev pub all_placed : ℕ → List Section → List Section
all_placed place [] = []
all_placed place (s ∷ ss) = placed place s ∷ all_placed (place + length (spelled s)) ss

-- the header, and sections that can be written behind it, are a module that holds them
abbrev pub WrittenFrames : Type 0
WrittenFrames = (ss : List Section) → All CanBeWritten ss → Frames (header ++ all_spelled ss) (gathered (all_placed 8 ss))
