-- A module's sections as bytes, by their framing alone ("Binary Format > Sections").
use Rattle.std.specs.Prelude.{◌≡◌, ◌⊎◌, ◌^◌, ◌≤◌, List, [], ◌∷◌, ◌++◌, ℕ, Bool, true, false, Contains, Option, Some, None, Result, Ok, Err, flat_map, length, ⊤}
use Rattle.std.specs.Global.{Vec}
pub use Rattle.wasm_frames.specs.Pieces.{Piece, HasPieces, IsPieced, PiecesUntil, piece_record}
pub use Rattle.wasm_frames.specs.Until.{LacksHeader}
use Rattle.wasm_frames.specs.declared.pieces.Pieced.{Pieced}
pub use Rattle.wasm_frames.specs.declared.pieces.RawPiece.{RawPiece}
use Rattle.walrus_items.specs.declared.error.Error.{Error}
use Rattle.walrus_items.specs.declared.error.Error.TheVariants.{InvalidWasm, Memory, TooLarge}
use Rattle.walrus_sections.specs.Numbers.{IsLongName, name_bytes, number_bytes}

-- how far the bytes are sections, or memory ran out
abbrev pub AnswersPieced : (bytes : List ℕ) → Result Pieced Error → Type 0
AnswersPieced bytes (Ok found) = IsPieced bytes found
AnswersPieced bytes (Err (Memory e)) = ⊤
AnswersPieced bytes (Err _) = ⊥

-- ---- the bytes

-- 1 where it is so, and else 0
abbrev pub bit : Bool → ℕ
bit true = 1
bit false = 0

-- 1 where a count of entries stands in the section, and else 0
abbrev pub is_counted : Option ℕ → ℕ
is_counted (Some count) = 1
is_counted None = 0

-- the count of entries, 0 where none stands there
abbrev pub count_of : Option ℕ → ℕ
count_of (Some count) = count
count_of None = 0

-- the name of a custom section alone, or nothing
abbrev pub names_of : Option (List ℕ) → List (List ℕ)
names_of (Some name) = name ∷ []
names_of None = []

-- A section: its id, whether a count of entries stands in it, its place, how many bytes it has, that count, the length of its name, and the
-- name.
abbrev pub section_bytes : Piece → List ℕ
section_bytes p = p.id ∷ is_counted p.entries ∷ (number_bytes p.start ++ number_bytes (length p.bytes) ++ number_bytes (count_of p.entries) ++ name_bytes (names_of p.name))

-- whether sections reach the end of the input, the place where they end, and each
abbrev pub list_bytes : (is_whole : Bool) → (place : ℕ) → List Piece → List ℕ
list_bytes is_whole place pieces = bit is_whole ∷ (number_bytes place ++ flat_map section_bytes pieces)

-- one of the numbers of a section has more than 32 bits
abbrev pub IsLongSection : Piece → Type 0
IsLongSection p = (2 ^ 32 ≤ p.start) ⊎ ((2 ^ 32 ≤ length p.bytes) ⊎ IsLongName (names_of p.name))

-- one of these sections is such
abbrev pub HasLongSection : List Piece → Type 0
HasLongSection pieces = (p : Piece) × (Contains pieces p × IsLongSection p)

-- the place has more than 32 bits, or a number of one of the sections
abbrev pub IsLongList : (place : ℕ) → List Piece → Type 0
IsLongList place pieces = (2 ^ 32 ≤ place) ⊎ HasLongSection pieces

-- ---- from bytes to the list

-- behind the header stand these sections up to this place, which is the end of the bytes, or isn't
abbrev pub StandUpTo : (bytes : List ℕ) → (is_whole : Bool) → (place : ℕ) → List Piece → Type 0
StandUpTo bytes true place pieces = HasPieces bytes pieces × (place ≡ length bytes)
StandUpTo bytes false place pieces = PiecesUntil bytes pieces place

-- the list tells of the sections that stand in the bytes, and no number is too long to be told
pub record IsSectionList (bytes list : List ℕ) : Type 0 where
  pub is_whole : Bool
  pub place : ℕ
  pub pieces : List Piece
  pub stand : StandUpTo bytes is_whole place pieces
  pub is : list ≡ list_bytes is_whole place pieces
  pub fits : IsLongList place pieces → ⊥

-- a number of what stands in the bytes is too long to be told
pub record PassesList (bytes : List ℕ) : Type 0 where
  pub is_whole : Bool
  pub place : ℕ
  pub pieces : List Piece
  pub stand : StandUpTo bytes is_whole place pieces
  pub long : IsLongList place pieces

-- the list, or a refusal with its cause
abbrev pub AnswersSections : (bytes : List ℕ) → Result (Vec ℕ) Error → Type 0
AnswersSections bytes (Ok list) = IsSectionList bytes list.items
AnswersSections bytes (Err (Memory e)) = ⊤
AnswersSections bytes (Err (InvalidWasm kind)) = LacksHeader bytes
AnswersSections bytes (Err TooLarge) = PassesList bytes
AnswersSections bytes (Err _) = ⊥
