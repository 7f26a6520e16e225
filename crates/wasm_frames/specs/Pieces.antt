-- A module's sections as they stand, whatever they hold (Binary Format > Modules > Sections).
use Rattle.std.specs.Prelude.{◌≡◌, ℕ, ◌+◌, ◌<◌, Bool, true, not, ◌&&◌, List, [], ◌∷◌, ◌++◌, length, flat_map, map, Option, Some, None, option_map, nat_lt, nat_eq}
use Rattle.wasm_forms.specs.Number.{IsU32}
use Rattle.wasm_forms.specs.Grammar.{Is, name}
use Rattle.wasm_frames.specs.declared.pieces.RawPiece.{RawPiece}
use Rattle.wasm_frames.specs.declared.pieces.Pieced.{Pieced}
use Rattle.wasm_frames.specs.declared.pieces.Pieced.TheVariants as found
use Rattle.wasm_frames.specs.Record.{Module}
use Rattle.wasm_frames.specs.Frames.{header, Frames}
use Rattle.wasm_frames.specs.Until.{LacksHeader}

-- a section as it stands: the id, a custom section's name, the count in front of a list's entries, the place of the id in the
-- input, and all bytes from the id to the end of the content
pub record Piece : Type 0 where
  pub id : ℕ
  pub name : Option (List ℕ)
  pub entries : Option ℕ
  pub start : ℕ
  pub bytes : List ℕ

-- the content of a section with this id is a list: of the ids 1 to 13 all but those of the start (8) and the data count (12)
abbrev pub is_list : ℕ → Bool
is_list id = nat_lt 0 id && nat_lt id 14 && not (nat_eq id 8) && not (nat_eq id 12)

-- the content of a custom section (id 0) begins with this name, other content has none (Custom Section)
abbrev pub IsNamed : ℕ → List ℕ → Option (List ℕ) → Type 0
IsNamed id content (Some n) = (id ≡ 0) × ((front : List ℕ) × ((back : List ℕ) × ((content ≡ front ++ back) × Is name front n)))
IsNamed id content None = id ≡ 0 → ⊥

-- the content of a list begins with this count; other content, and what no number begins, has none (Conventions > Lists)
abbrev pub IsCounted : ℕ → List ℕ → Option ℕ → Type 0
IsCounted id content (Some n) = (is_list id ≡ true) × ((front : List ℕ) × ((back : List ℕ) × ((content ≡ front ++ back) × IsU32 front n)))
IsCounted id content None = is_list id ≡ true → (front back : List ℕ) (n : ℕ) → content ≡ front ++ back → IsU32 front n → ⊥

-- all of these bytes, the first at this place, are a section: its id, the count of its content's bytes, and these, whatever they are
-- behind a custom section's name
pub record IsPiece (place : ℕ) (bytes : List ℕ) (p : Piece) : Type 0 where
  pub size : List ℕ
  pub content : List ℕ
  pub spelled : bytes ≡ p.id ∷ (size ++ content)
  pub sized : IsU32 size (length content)
  pub named : IsNamed p.id content p.name
  pub counted : IsCounted p.id content p.entries
  pub starts : p.start ≡ place
  pub held : p.bytes ≡ bytes

-- sections one after another, the first at this place
abbrev pub ArePieces : ℕ → List ℕ → List Piece → Type 0
ArePieces place bytes [] = bytes ≡ []
ArePieces place bytes (p ∷ ps) =
    (front : List ℕ) × ((back : List ℕ) × ((bytes ≡ front ++ back) × IsPiece place front p × ArePieces (place + length front) back ps))

-- the bytes are the header, and behind it these sections, which use all that is left
pub record HasPieces (bytes : List ℕ) (ps : List Piece) : Type 0 where
  pub rest : List ℕ
  pub headed : bytes ≡ header ++ rest
  pub framed : ArePieces 8 rest ps

-- no section, which would stand at this place, stands in front of these bytes
abbrev pub LacksPiece : ℕ → List ℕ → Type 0
LacksPiece place bytes = (front back : List ℕ) (p : Piece) → bytes ≡ front ++ back → IsPiece place front p → ⊥

-- behind the header stand these sections up to this place, and behind them bytes that no section begins
pub record PiecesUntil (bytes : List ℕ) (ps : List Piece) (place : ℕ) : Type 0 where
  pub whole : List ℕ
  pub rest : List ℕ
  pub headed : bytes ≡ header ++ (whole ++ rest)
  pub framed : ArePieces 8 whole ps
  pub reached : place ≡ 8 + length whole
  pub left : 0 < length rest
  pub stops : LacksPiece place rest

-- what a section in memory holds
abbrev pub piece_record : RawPiece → Piece
piece_record p = record {
  id = p.id;
  name = option_map (λ n. n.now) p.name;
  entries = p.entries;
  start = p.start;
  bytes = p.bytes.now;
}

-- what was found of the bytes is so
abbrev pub IsPieced : List ℕ → Pieced → Type 0
IsPieced bytes (found.Whole ps) = HasPieces bytes (map piece_record ps.items)
IsPieced bytes found.NoHeader = LacksHeader bytes
IsPieced bytes (found.Until ps place) = PiecesUntil bytes (map piece_record ps.items) place

-- no bytes are two lists of sections
abbrev pub HasOneRow : Type 0
HasOneRow = (bytes : List ℕ) (ps qs : List Piece) → HasPieces bytes ps → HasPieces bytes qs → ps ≡ qs

-- no bytes have two places up to which sections stand, nor two lists of those sections
abbrev pub HasOneStop : Type 0
HasOneStop = (bytes : List ℕ) (ps qs : List Piece) (p q : ℕ) → PiecesUntil bytes ps p → PiecesUntil bytes qs q → (ps ≡ qs) × (p ≡ q)

-- bytes that have such a place are no list of sections
abbrev pub IsCutShort : Type 0
IsCutShort = (bytes : List ℕ) (ps qs : List Piece) (place : ℕ) → PiecesUntil bytes ps place → HasPieces bytes qs → ⊥

-- the header and the bytes of the sections, one after another, are all of the bytes
abbrev pub HoldsAll : Type 0
HoldsAll = (bytes : List ℕ) (ps : List Piece) → HasPieces bytes ps → bytes ≡ header ++ flat_map (λ p. p.bytes) ps

-- the bytes of a module are a list of sections
abbrev pub ModuleHasPieces : Type 0
ModuleHasPieces = (bytes : List ℕ) (m : Module) → Frames bytes m → (ps : List Piece) × HasPieces bytes ps
