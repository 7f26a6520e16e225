-- What the steps of stripping answer.
use Rattle.std.specs.Prelude.{◌≡◌, ◌⊎◌, List, [], ℕ, false, Result, Ok, Err, map, ⊤}
use Rattle.std.specs.Global.{Vec}
use Rattle.wasm_frames.specs.Pieces.{Piece, HasPieces, piece_record}
use Rattle.wasm_frames.specs.declared.pieces.RawPiece.{RawPiece}
use Rattle.walrus_items.specs.declared.error.Error.{Error}
use Rattle.walrus_items.specs.declared.error.Error.TheVariants.{InvalidWasm, Memory}
use Rattle.walrus_sections.specs.Choice.{Choice}
use Rattle.walrus_sections.specs.StripAnswers.{FitsSection, SectionGoes}

-- the choice is one of what is kept, or fits the name of one of the sections
abbrev pub IsMet : List Piece → Choice → Type 0
IsMet pieces choice = choice.is_kept ≡ false → FitsSection pieces choice

-- the section goes and none of its bytes are left, or it stays and all are
abbrev pub IsLeftOf : List Choice → Piece → (bytes : List ℕ) → Type 0
IsLeftOf choices piece bytes = (SectionGoes choices piece × (bytes ≡ [])) ⊎ ((SectionGoes choices piece → ⊥) × (bytes ≡ piece.bytes))

-- the sections that the bytes are; or they are none, or memory ran out
abbrev pub ReadsPieces : (bytes : List ℕ) → Result (Vec RawPiece) Error → Type 0
ReadsPieces bytes (Ok pieces) = HasPieces bytes (map piece_record pieces.items)
ReadsPieces bytes (Err (Memory e)) = ⊤
ReadsPieces bytes (Err (InvalidWasm kind)) = (pieces : List Piece) → HasPieces bytes pieces → ⊥
ReadsPieces bytes (Err _) = ⊥
