-- Reading sections as they stand, one after another: what stands so far.
use Rattle.std.proofs.Common.{◌≡◌, ℕ, ◌+◌, ◌-◌, ◌<◌, List, [], ◌∷◌, ◌++◌, length, map, refl, sym, ap, subst, ◌∙◌, arith, append_assoc, length-append}
use Rattle.std.proofs.lemmas.List.{append-nil, map-append}
use Rattle.std.specs.Prelude.{Some, None}
use Rattle.wasm_forms.proofs.Bind.{some_not_none}
use Rattle.wasm_frames.specs.declared.pieces.RawPiece.{RawPiece}
use Rattle.wasm_frames.specs.Frames.{header}
use Rattle.wasm_frames.specs.Pieces.{Piece, IsPiece, ArePieces, PiecesUntil, piece_record}
use Rattle.wasm_frames.specs.PieceSteps.{piece_at}
use Rattle.wasm_frames.proofs.PieceText.{piece_exact}

-- the bytes are the header, these sections, and the rest
pub record PiecesReached (bytes rest : List ℕ) (so_far : List Piece) : Type 0 where
  pub whole : List ℕ
  pub headed : bytes ≡ header ++ (whole ++ rest)
  pub framed : ArePieces 8 whole so_far

-- where the rest begins
place_reached : (bytes whole rest : List ℕ) → bytes ≡ header ++ (whole ++ rest) → length bytes - length rest ≡ 8 + length whole
place_reached bytes whole rest e = omega (arith, ap length e, length-append whole rest)

-- a section more behind others
pieces_more : (place : ℕ) (whole front : List ℕ) (ps : List Piece) (p : Piece) → ArePieces place whole ps → IsPiece (place + length whole) front p
    → ArePieces place (whole ++ front) (ps ++ p ∷ [])
pieces_more place whole front [] p h t =
    let there : place + length whole ≡ place = omega (arith, ap length h) in
    (front, ([], (ap (λ l. l ++ front) h ∙ sym (append-nil front), subst (λ (n : ℕ). IsPiece n front p) there t, refl)))
pieces_more place whole front (q ∷ ps) p h t =
    let there : place + length whole ≡ (place + length h.0) + length h.1.0 = omega (arith, ap length h.1.1.0, length-append h.0 h.1.0) in
    let onward = pieces_more (place + length h.0) h.1.0 front ps p h.1.1.2 (subst (λ (n : ℕ). IsPiece n front p) there t) in
    (h.0, (h.1.0 ++ front, (ap (λ l. l ++ front) h.1.1.0 ∙ append_assoc h.0 h.1.0 front, h.1.1.1, onward)))

-- what stands behind a section is less than what began with it
pub piece_shorter : (place : ℕ) (bytes rest : List ℕ) (p : Piece) → piece_at place bytes ≡ Some (p, rest) → length rest < length bytes
piece_shorter place bytes rest p e =
    let u = (piece_exact place).takes bytes (p, rest) e in
    omega (arith, ap length u.1.0, length-append u.0 rest, ap length u.1.1.spelled)

-- a section further
pub pieces_next : (bytes rest behind : List ℕ) (old now : List RawPiece) (piece : RawPiece)
    → PiecesReached bytes rest (map piece_record old) → piece_at (length bytes - length rest) rest ≡ Some (piece_record piece, behind)
    → now ≡ old ++ piece ∷ [] → PiecesReached bytes behind (map piece_record now)
pieces_next bytes rest behind old now piece h e longer =
    let u = (piece_exact (length bytes - length rest)).takes rest (piece_record piece, behind) e in
    let there : IsPiece (8 + length h.whole) u.0 (piece_record piece) =
    subst (λ (n : ℕ). IsPiece n u.0 (piece_record piece)) (place_reached bytes h.whole rest h.headed) u.1.1 in
    let all : map piece_record now ≡ map piece_record old ++ piece_record piece ∷ [] =
    ap (map piece_record) longer ∙ map-append piece_record old (piece ∷ []) in
    record {
      whole = h.whole ++ u.0;
      headed = h.headed ∙ ap (λ l. header ++ (h.whole ++ l)) u.1.0 ∙ ap (λ l. header ++ l) (sym (append_assoc h.whole u.0 behind));
      framed = subst (λ (ps : List Piece). ArePieces 8 (h.whole ++ u.0) ps) (sym all)
          (pieces_more 8 h.whole u.0 (map piece_record old) (piece_record piece) h.framed there);
    }

-- where no section stands, and bytes are left
pub pieces_stop : (bytes rest : List ℕ) (so_far : List Piece) → PiecesReached bytes rest so_far
    → piece_at (length bytes - length rest) rest ≡ None → 0 < length rest → PiecesUntil bytes so_far (length bytes - length rest)
pieces_stop bytes rest so_far h none some = record {
  whole = h.whole;
  rest = rest;
  headed = h.headed;
  framed = h.framed;
  reached = place_reached bytes h.whole rest h.headed;
  left = some;
  stops = λ front back p e t.
      let place : ℕ = length bytes - length rest in
      some_not_none (p, back) (sym (ap (piece_at place) e ∙ (piece_exact place).again front back p t) ∙ none);
}
