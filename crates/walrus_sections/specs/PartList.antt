-- The parts of a module, as a value and as bytes (Binary Format > Modules).
use Rattle.std.specs.Prelude.{◌≡◌, ◌⊎◌, ◌^◌, ◌≤◌, List, ◌∷◌, ◌++◌, ℕ, Contains, Result, Ok, Err, flat_map, length, map, ⊤}
use Rattle.std.specs.Global.{Vec}
use Rattle.walrus_items.specs.declared.error.Error.{Error}
use Rattle.walrus_items.specs.declared.error.Error.TheVariants.{InvalidWasm, Memory, TooLarge}
pub use Rattle.walrus_sections.specs.declared.parts.Item.{Item}
pub use Rattle.walrus_sections.specs.declared.parts.Part.{Part as RawPart}
pub use Rattle.walrus_sections.specs.Parts.{Part, SectionPart, FunctionPart, SegmentPart, HasParts, Module, Frames, part_record}
use Rattle.walrus_sections.specs.declared.tool.section_parts.TheConstants.{FUNCTION, SEGMENT}
use Rattle.walrus_sections.specs.Numbers.{no_name, number_bytes}
use Rattle.walrus_sections.specs.Sections.{IsLongSection, section_bytes}

-- the bytes are no module
abbrev pub IsNone : (bytes : List ℕ) → Type 0
IsNone bytes = (m : Module) → Frames bytes m → ⊥

-- the parts of the module that the bytes are, or memory ran out
abbrev pub AnswersParts : (bytes : List ℕ) → Result (Vec RawPart) Error → Type 0
AnswersParts bytes (Ok parts) = HasParts bytes (map part_record parts.items)
AnswersParts bytes (Err (Memory e)) = ⊤
AnswersParts bytes (Err (InvalidWasm kind)) = IsNone bytes
AnswersParts bytes (Err _) = ⊥

-- ---- the bytes

-- A function or a data segment, told as a section that has no name: what it is, that a count stands in it, its place, how many bytes it
-- has, its index for that count, and that no name follows.
abbrev pub item_bytes : (id : ℕ) → Item → List ℕ
item_bytes id i = id ∷ 1 ∷ (number_bytes i.start ++ number_bytes i.size ++ number_bytes i.index ++ number_bytes no_name)

-- a section, a function or a data segment, the latter two by a number that no section has
abbrev pub part_bytes : Part → List ℕ
part_bytes (SectionPart p) = section_bytes p
part_bytes (FunctionPart i) = item_bytes FUNCTION i
part_bytes (SegmentPart i) = item_bytes SEGMENT i

-- that sections reach the end of the input, which is this place, and each part
abbrev pub parts_bytes : (place : ℕ) → List Part → List ℕ
parts_bytes place parts = 1 ∷ (number_bytes place ++ flat_map part_bytes parts)

-- one of the numbers of an item has more than 32 bits
abbrev pub IsLongItem : Item → Type 0
IsLongItem i = (2 ^ 32 ≤ i.start) ⊎ ((2 ^ 32 ≤ i.size) ⊎ (2 ^ 32 ≤ i.index))

abbrev pub IsLongPart : Part → Type 0
IsLongPart (SectionPart p) = IsLongSection p
IsLongPart (FunctionPart i) = IsLongItem i
IsLongPart (SegmentPart i) = IsLongItem i

-- one of these parts is such
abbrev pub HasLongPart : List Part → Type 0
HasLongPart parts = (p : Part) × (Contains parts p × IsLongPart p)

-- the place has more than 32 bits, or a number of one of the parts
abbrev pub AreLong : (place : ℕ) → List Part → Type 0
AreLong place parts = (2 ^ 32 ≤ place) ⊎ HasLongPart parts

-- the list tells of the parts of the module that the bytes are, and no number is too long to be told
pub record IsPartList (bytes list : List ℕ) : Type 0 where
  pub parts : List Part
  pub has : HasParts bytes parts
  pub is : list ≡ parts_bytes (length bytes) parts
  pub fits : AreLong (length bytes) parts → ⊥

-- a number of these is too long to be told
pub record PassesParts (bytes : List ℕ) : Type 0 where
  pub parts : List Part
  pub has : HasParts bytes parts
  pub long : AreLong (length bytes) parts

-- the list, or a refusal with its cause
abbrev pub AnswersPartList : (bytes : List ℕ) → Result (Vec ℕ) Error → Type 0
AnswersPartList bytes (Ok list) = IsPartList bytes list.items
AnswersPartList bytes (Err (Memory e)) = ⊤
AnswersPartList bytes (Err (InvalidWasm kind)) = IsNone bytes
AnswersPartList bytes (Err TooLarge) = PassesParts bytes
AnswersPartList bytes (Err _) = ⊥
