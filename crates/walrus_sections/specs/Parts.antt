-- The parts of a module: its sections, and the functions and data segments in them (Binary Format > Modules).
use Rattle.std.specs.Prelude.{◌≡◌, ℕ, suc, ◌+◌, Bool, true, false, List, [], ◌∷◌, ◌++◌, length, filter}
use Rattle.wasm_forms.specs.declared.error.WireError.{WireError}
use Rattle.wasm_forms.specs.declared.error.WireError.TheVariants.{Malformed, Memory, TooLarge}
use Rattle.wasm_forms.specs.Number.{IsU32}
use Rattle.wasm_forms.specs.Grammar.{Is}
use Rattle.wasm_entries.specs.declared.record.RawDesc.TheVariants as descs
use Rattle.wasm_entries.specs.Record.{Import, Segment}
use Rattle.wasm_entries.specs.Forms.{data_form}
pub use Rattle.wasm_frames.specs.Pieces.{Piece, IsPiece, piece_record}
pub use Rattle.wasm_frames.specs.Record.{Body, Module}
pub use Rattle.wasm_frames.specs.Frames.{Section, CustomSection, Types, Imports, Functions, Tables, Memories, Globals, Exports, Start, Elements, Code, DataSegments, DataCount, Tags, IsSection, header, gathered, Frames}
use Rattle.walrus_sections.specs.declared.parts.Item.{Item}
use Rattle.walrus_sections.specs.declared.parts.Part.{Part as RawPart}
use Rattle.walrus_sections.specs.declared.parts.Part.TheVariants as raw

-- a section as it stands, a function with a body, or a data segment
pub data Part : Type 0 where
  SectionPart : Piece → Part
  FunctionPart : Item → Part
  SegmentPart : Item → Part

abbrev pub item : (index start size : ℕ) → Item
item index start size = record { index = index; start = start; size = size }

-- ---- indices

-- whether an import brings a function
abbrev pub brings_function : Import → Bool
brings_function i = elim i.desc as (λ _. Bool) [
  | descs.Function ty ↦ true
  | descs.Table t ↦ false
  | descs.Memory l ↦ false
  | descs.Global g ↦ false
  | descs.Tag ty ↦ false
]

-- how many functions the module imports: its own have the indices behind them
abbrev pub functions_imported : Module → ℕ
functions_imported m = length (filter brings_function m.imports)

-- how many functions, and data segments, a section adds
abbrev pub functions_in : Section → ℕ
functions_in (Code bs) = length bs
functions_in s = 0

abbrev pub segments_in : Section → ℕ
segments_in (DataSegments ds) = length ds
segments_in s = 0

-- ---- what stands in a section

-- the functions with these bodies, each with the place and the count of its body's bytes, from this index on
abbrev pub function_parts : ℕ → List Body → List Part
function_parts index [] = []
function_parts index (b ∷ bs) = FunctionPart (item index b.start (length b.bytes)) ∷ function_parts (suc index) bs

-- all of these bytes, from this place on, are these data segments, one behind another, each with its place and the count of its bytes
abbrev pub AreSegments : (index place : ℕ) → (bytes : List ℕ) → List Segment → List Part → Type 0
AreSegments index place bytes [] parts = (bytes ≡ []) × (parts ≡ [])
AreSegments index place bytes (d ∷ ds) parts =
    (front : List ℕ) × ((back : List ℕ) × ((others : List Part) × ((bytes ≡ front ++ back) × Is data_form front d
    × (parts ≡ SegmentPart (item index place (length front)) ∷ others) × AreSegments (suc index) (place + length front) back ds others)))

-- the count of the data segments, and these (Data Section)
pub record IsData (index place : ℕ) (bytes : List ℕ) (ds : List Segment) (parts : List Part) : Type 0 where
  pub count : List ℕ
  pub row : List ℕ
  pub spelled : bytes ≡ count ++ row
  pub counted : IsU32 count (length ds)
  pub segments : AreSegments index (place + length count) row ds parts

-- the parts in a section with this content, which begins at this place: functions and segments have the indices behind so many
abbrev pub AreWithin : (functions segments place : ℕ) → (content : List ℕ) → Section → List Part → Type 0
AreWithin functions segments place content (Code bs) parts = parts ≡ function_parts functions bs
AreWithin functions segments place content (DataSegments ds) parts = IsData segments place content ds parts
AreWithin functions segments place content s parts = parts ≡ []

-- ---- the whole list

-- these bytes are a section, as it stands, with these parts in it
pub record IsParted (functions segments place : ℕ) (bytes : List ℕ) (s : Section) (p : Piece) (parts : List Part) : Type 0 where
  pub section : IsSection place bytes s
  pub stands : IsPiece place bytes p
  pub within : AreWithin functions segments (place + 1 + length section.size) section.content s parts

-- all of these bytes, from this place on, are sections; each is told, and behind it the parts in it
abbrev pub AreParts : (functions segments place : ℕ) → (bytes : List ℕ) → List Section → List Part → Type 0
AreParts functions segments place bytes [] parts = (bytes ≡ []) × (parts ≡ [])
AreParts functions segments place bytes (s ∷ ss) parts =
    (front : List ℕ) × ((back : List ℕ) × ((p : Piece) × ((inner : List Part) × ((others : List Part) × ((bytes ≡ front ++ back)
    × IsParted functions segments place front s p inner × (parts ≡ SectionPart p ∷ (inner ++ others))
    × AreParts (functions + functions_in s) (segments + segments_in s) (place + length front) back ss others)))))

-- the bytes are the header and sections that a module has, and these are all parts of it
pub record HasParts (bytes : List ℕ) (parts : List Part) : Type 0 where
  pub rest : List ℕ
  pub sections : List Section
  pub headed : bytes ≡ header ++ rest
  pub parted : AreParts (functions_imported (gathered sections)) 0 8 rest sections parts

-- ---- in memory

abbrev pub part_record : RawPart → Part
part_record (raw.Section p) = SectionPart (piece_record p)
part_record (raw.Function i) = FunctionPart i
part_record (raw.Segment i) = SegmentPart i

-- the bytes are a module that imports so many functions
abbrev pub IsImported : (bytes : List ℕ) → ℕ → Type 0
IsImported bytes n = (m : Module) × (Frames bytes m × (n ≡ functions_imported m))

-- memory ran out, or the bytes are no module
abbrev pub FramesNothing : (bytes : List ℕ) → WireError → Type 0
FramesNothing bytes Malformed = (m : Module) → Frames bytes m → ⊥
FramesNothing bytes (Memory e) = Unit {0}
FramesNothing bytes TooLarge = ⊥

-- ---- laws

-- no bytes have two lists of parts
abbrev pub HasOnePartList : Type 0
HasOnePartList = (bytes : List ℕ) (ps qs : List Part) → HasParts bytes ps → HasParts bytes qs → ps ≡ qs

-- each module has a list of parts, and no other bytes have one
abbrev pub ModuleHasParts : Type 0
ModuleHasParts = (bytes : List ℕ) (m : Module) → Frames bytes m → (ps : List Part) × HasParts bytes ps

abbrev pub OnlyModulesHaveParts : Type 0
OnlyModulesHaveParts = (bytes : List ℕ) (ps : List Part) → HasParts bytes ps → (m : Module) × Frames bytes m
