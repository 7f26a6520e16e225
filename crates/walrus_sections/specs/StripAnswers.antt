-- A module's bytes without the custom sections whose names are chosen ("Binary Format > Custom Section").
use Rattle.std.specs.Prelude.{◌≡◌, ◌⊎◌, List, [], ◌∷◌, ◌++◌, ℕ, false, Contains, Option, Some, None, Result, Ok, Err, flat_map, ⊤}
use Rattle.std.specs.Global.{Vec}
use Rattle.wasm_frames.specs.Frames.{header}
use Rattle.wasm_frames.specs.Pieces.{Piece, HasPieces}
use Rattle.walrus_items.specs.declared.error.Error.{Error}
use Rattle.walrus_items.specs.declared.error.Error.TheVariants.{InvalidWasm, Memory, NotFound}
use Rattle.walrus_sections.specs.Choice.{Choice, Goes}
use Rattle.walrus_sections.specs.Fits.{Fits}

-- a section with this name goes; one without, which isn't custom, stays
abbrev pub NameGoes : List Choice → Option (List ℕ) → Type 0
NameGoes choices (Some name) = Goes choices name
NameGoes choices None = ⊥

-- the section is custom, and by its name it goes
abbrev pub SectionGoes : List Choice → Piece → Type 0
SectionGoes choices piece = NameGoes choices piece.name

-- of these sections those stay, in their order, of which it isn't so
abbrev pub IsWithout : (P : Piece → Type 0) → (pieces stay : List Piece) → Type 0
IsWithout P [] stay = stay ≡ []
IsWithout P (piece ∷ pieces) stay = (P piece × IsWithout P pieces stay) ⊎ ((P piece → ⊥) × ((others : List Piece) × ((stay ≡ piece ∷ others) × IsWithout P pieces others)))

-- behind the header the bytes are those sections, of these, that don't go
abbrev pub AreLeft : List Choice → (pieces : List Piece) → (bytes : List ℕ) → Type 0
AreLeft choices pieces bytes = (stay : List Piece) × (IsWithout (SectionGoes choices) pieces stay × (bytes ≡ header ++ flat_map (λ p. p.bytes) stay))

-- the choice fits the name of this section
abbrev pub FitsName : Choice → Option (List ℕ) → Type 0
FitsName choice (Some name) = Fits choice.name name
FitsName choice None = ⊥

-- the choice fits the name of one of the sections
abbrev pub FitsSection : List Piece → Choice → Type 0
FitsSection pieces choice = (piece : Piece) × (Contains pieces piece × FitsName choice piece.name)

-- each choice of what goes fits the name of one of the sections
abbrev pub AllFit : List Piece → List Choice → Type 0
AllFit pieces choices = (choice : Choice) → Contains choices choice → choice.is_kept ≡ false → FitsSection pieces choice

-- a choice of what goes fits the name of none of the sections
abbrev pub OneFitsNone : List Piece → List Choice → Type 0
OneFitsNone pieces choices = (choice : Choice) × (Contains choices choice × ((choice.is_kept ≡ false) × (FitsSection pieces choice → ⊥)))

-- The bytes are sections. The output is the header and those of them that don't go, byte for byte and in their order; and each choice of what
-- goes fits the name of one.
pub record IsStripped (bytes : List ℕ) (choices : List Choice) (output : List ℕ) : Type 0 where
  pub pieces : List Piece
  pub framed : HasPieces bytes pieces
  pub left : AreLeft choices pieces output
  pub fit : AllFit pieces choices

-- the bytes are sections, and a choice of what goes fits the name of none
pub record LacksSection (bytes : List ℕ) (choices : List Choice) : Type 0 where
  pub pieces : List Piece
  pub framed : HasPieces bytes pieces
  pub none : OneFitsNone pieces choices

-- what is left, or a refusal with its cause
abbrev pub AnswersStripped : (bytes : List ℕ) → List Choice → Result (Vec ℕ) Error → Type 0
AnswersStripped bytes choices (Ok output) = IsStripped bytes choices output.items
AnswersStripped bytes choices (Err (Memory e)) = ⊤
AnswersStripped bytes choices (Err (InvalidWasm kind)) = (pieces : List Piece) → HasPieces bytes pieces → ⊥
AnswersStripped bytes choices (Err NotFound) = LacksSection bytes choices
AnswersStripped bytes choices (Err _) = ⊥
