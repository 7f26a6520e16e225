-- Which sections stay and which choices are met, among those that were looked at.
use Rattle.std.proofs.Common.{◌≡◌, ◌<◌, ◌≤◌, ◌+◌, ◌↔◌, inl, inr, ℕ, Bool, true, false, List, [], ◌∷◌, ◌++◌, length, get_or, map, take, All, flat_map, refl, sym, ap, ◌∙◌, subst, append_assoc}
use Rattle.std.proofs.lemmas.Bool.{false≢true as untrue}
use Rattle.std.proofs.lemmas.Grind.{flat_map-append}
use Rattle.std.proofs.lemmas.List.Elements.{All-map, All-contains, All-more}
use Rattle.std.proofs.lemmas.List.{append-nil, map_more, take_all}
use Rattle.wasm_frames.specs.Frames.{header}
use Rattle.std.specs.Global.{Vec}
use Rattle.wasm_frames.specs.Pieces.{Piece, HasPieces, IsPieced, PiecesUntil, piece_record}
use Rattle.wasm_frames.specs.declared.pieces.Pieced.{Pieced}
use Rattle.wasm_frames.specs.declared.pieces.Pieced.TheVariants as found
use Rattle.wasm_frames.specs.Until.{LacksHeader}
use Rattle.wasm_frames.specs.declared.pieces.RawPiece.{RawPiece}
use Rattle.walrus_sections.specs.Choice.{Choice, choice_seen, choices_seen}
use Rattle.walrus_sections.specs.StripAnswers.{AllFit, AreLeft, FitsName, FitsSection, IsWithout, OneFitsNone, SectionGoes}
use Rattle.walrus_sections.specs.StripSteps.{IsLeftOf, IsMet}
use Rattle.walrus_sections.specs.declared.choice.Choice.{Choice as HeldChoice}
use Rattle.walrus_sections.proofs.Among.{among, none_among}

-- ---- one choice over all sections

-- it fits none of these
abbrev pub NoneFits : HeldChoice → List RawPiece → Type 0
NoneFits choice pieces = All (λ piece. FitsName (choice_seen choice) (piece_record piece).name → ⊥) pieces

pub one_fits : (choice : HeldChoice) (pieces : List RawPiece) (i : ℕ) (d : RawPiece) → i < length pieces → FitsName (choice_seen choice) (piece_record (get_or pieces i d)).name
    → FitsSection (map piece_record pieces) (choice_seen choice)
one_fits choice pieces i d below fits = (piece_record (get_or pieces i d), (among piece_record pieces i d below, fits))

pub none_more : (choice : HeldChoice) (pieces : List RawPiece) (i : ℕ) (d : RawPiece) → i < length pieces → (FitsName (choice_seen choice) (piece_record (get_or pieces i d)).name → ⊥)
    → NoneFits choice (take i pieces) → NoneFits choice (take (i + 1) pieces)
none_more choice pieces i d below not none = All-more (λ piece. FitsName (choice_seen choice) (piece_record piece).name → ⊥) pieces i d below none not

none_fits : (choice : HeldChoice) (pieces : List RawPiece) → NoneFits choice pieces → FitsSection (map piece_record pieces) (choice_seen choice) → ⊥
none_fits choice pieces none found = none_among (λ (piece : Piece). FitsName (choice_seen choice) piece.name) piece_record pieces none found.0 found.1.0 found.1.1

pub none_at_all : (choice : HeldChoice) (pieces : List RawPiece) (i : ℕ) → length pieces ≤ i → NoneFits choice (take i pieces) → (false ≡ true) ↔ FitsSection (map piece_record pieces) (choice_seen choice)
none_at_all choice pieces i past none = (λ h. absurd (untrue h), λ found. absurd (none_fits choice pieces (subst (NoneFits choice) (take_all i pieces past) none) found))

-- ---- all choices

pub met_kept : (pieces : List Piece) (choice : Choice) → choice.is_kept ≡ true → (choice.is_kept ≡ true) ↔ IsMet pieces choice
met_kept pieces choice is = (λ h. λ goes. absurd (untrue (sym goes ∙ is)), λ h. is)

pub met_fits : (pieces : List Piece) (choice : Choice) (fits : Bool) → choice.is_kept ≡ false → (fits ≡ true) ↔ FitsSection pieces choice → (fits ≡ true) ↔ IsMet pieces choice
met_fits pieces choice fits is iff = (λ h. λ goes. iff.0 h, λ h. iff.1 (h is))

-- those of these that say what goes are met
abbrev pub AllMet : List RawPiece → List HeldChoice → Type 0
AllMet pieces choices = All (λ choice. IsMet (map piece_record pieces) (choice_seen choice)) choices

pub met_more : (pieces : List RawPiece) (choices : List HeldChoice) (i : ℕ) (d : HeldChoice) → i < length choices → IsMet (map piece_record pieces) (choice_seen (get_or choices i d))
    → AllMet pieces (take i choices) → AllMet pieces (take (i + 1) choices)
met_more pieces choices i d below is all = All-more (λ choice. IsMet (map piece_record pieces) (choice_seen choice)) choices i d below all is

pub all_met : (pieces : List RawPiece) (choices : List HeldChoice) (i : ℕ) → length choices ≤ i → AllMet pieces (take i choices) → AllFit (map piece_record pieces) (choices_seen choices)
all_met pieces choices i past all = λ choice at.
    All-contains (IsMet (map piece_record pieces)) (choices_seen choices) choice
    (All-map (IsMet (map piece_record pieces)) choice_seen choices (subst (AllMet pieces) (take_all i choices past) all)) at

pub one_unmet : (pieces : List RawPiece) (choices : List HeldChoice) (i : ℕ) (d : HeldChoice) → i < length choices → (IsMet (map piece_record pieces) (choice_seen (get_or choices i d)) → ⊥)
    → OneFitsNone (map piece_record pieces) (choices_seen choices)
one_unmet pieces choices i d below unmet = (choice, (among choice_seen choices i d below, (by_kind choice.is_kept refl, λ fits. unmet (λ kept. fits))))
  where
    choice : Choice
    choice = choice_seen (get_or choices i d)

    by_kind : (k : Bool) → choice.is_kept ≡ k → choice.is_kept ≡ false
    by_kind true is = absurd (unmet (λ kept. absurd (untrue (sym kept ∙ is))))
    by_kind false is = is

-- ---- what is left

without_more : (P : Piece → Type 0) (pieces stay : List Piece) (next : Piece) → P next → IsWithout P pieces stay → IsWithout P (pieces ++ next ∷ []) stay
without_more P [] stay next goes is = inl (goes, is)
without_more P (piece ∷ pieces) stay next goes (inl h) = inl (h.0, without_more P pieces stay next goes h.1)
without_more P (piece ∷ pieces) stay next goes (inr h) = inr (h.0, (h.1.0, (h.1.1.0, without_more P pieces h.1.0 next goes h.1.1.1)))

with_more : (P : Piece → Type 0) (pieces stay : List Piece) (next : Piece) → (P next → ⊥) → IsWithout P pieces stay → IsWithout P (pieces ++ next ∷ []) (stay ++ next ∷ [])
with_more P [] stay next stays is = inr (stays, ([], (ap (λ (l : List Piece). l ++ next ∷ []) is, refl)))
with_more P (piece ∷ pieces) stay next stays (inl h) = inl (h.0, with_more P pieces stay next stays h.1)
with_more P (piece ∷ pieces) stay next stays (inr h) = inr (h.0, (h.1.0 ++ next ∷ [], (ap (λ (l : List Piece). l ++ next ∷ []) h.1.1.0, with_more P pieces h.1.0 next stays h.1.1.1)))

pub left_none : (choices : List Choice) (before output : List ℕ) → before ≡ [] → output ≡ before ++ header → AreLeft choices [] output
left_none choices before output none is = ([], (refl, is ∙ ap (λ (b : List ℕ). b ++ header) none ∙ sym (append-nil header)))

left_next : (choices : List Choice) (pieces : List Piece) (next : Piece) (output bytes : List ℕ) → AreLeft choices pieces output → IsLeftOf choices next bytes → AreLeft choices (pieces ++ next ∷ []) (output ++ bytes)
left_next choices pieces next output bytes left (inl goes) =
    (left.0, (without_more (SectionGoes choices) pieces left.0 next goes.0 left.1.0, ap (λ (b : List ℕ). output ++ b) goes.1 ∙ append-nil output ∙ left.1.1))
left_next choices pieces next output bytes left (inr stays) =
    let rest : List ℕ = flat_map (λ (p : Piece). p.bytes) left.0 in
    let one : flat_map (λ (p : Piece). p.bytes) (next ∷ []) ≡ next.bytes = append-nil next.bytes in (
      left.0 ++ next ∷ [],
      (
        with_more (SectionGoes choices) pieces left.0 next stays.0 left.1.0,
        ap (λ (b : List ℕ). output ++ b) (stays.1 ∙ sym one) ∙ ap (λ (o : List ℕ). o ++ flat_map (λ (p : Piece). p.bytes) (next ∷ [])) left.1.1
            ∙ append_assoc header rest (flat_map (λ (p : Piece). p.bytes) (next ∷ [])) ∙ ap (λ (b : List ℕ). header ++ b) (sym (flat_map-append (λ (p : Piece). p.bytes) left.0 (next ∷ []))),
      ),
    )

pub left_more : (choices : List Choice) (pieces : List RawPiece) (i : ℕ) (d : RawPiece) → i < length pieces → (output bytes after : List ℕ) → AreLeft choices (map piece_record (take i pieces)) output
    → IsLeftOf choices (piece_record (get_or pieces i d)) bytes → after ≡ output ++ bytes → AreLeft choices (map piece_record (take (i + 1) pieces)) after
left_more choices pieces i d below output bytes after left is after_is =
    subst (λ (ps : List Piece). AreLeft choices ps after) (sym (map_more piece_record pieces i d below))
    (subst (AreLeft choices (map piece_record (take i pieces) ++ piece_record (get_or pieces i d) ∷ [])) (sym after_is)
    (left_next choices (map piece_record (take i pieces)) (piece_record (get_or pieces i d)) output bytes left is))

pub left_all : (choices : List Choice) (pieces : List RawPiece) (i : ℕ) (output : List ℕ) → length pieces ≤ i → AreLeft choices (map piece_record (take i pieces)) output → AreLeft choices (map piece_record pieces) output
left_all choices pieces i output past left = subst (λ (ps : List RawPiece). AreLeft choices (map piece_record ps) output) (take_all i pieces past) left

-- ---- bytes that are no sections

pub headless : (bytes : List ℕ) → LacksHeader bytes → (pieces : List Piece) → HasPieces bytes pieces → ⊥
headless bytes lacks pieces has = lacks has.rest has.headed

pub headless_found : (bytes : List ℕ) (p : Pieced) → p ≡ found.NoHeader → IsPieced bytes p → (pieces : List Piece) → HasPieces bytes pieces → ⊥
headless_found bytes p is h = headless bytes (subst (IsPieced bytes) is h)

pub whole_found : (bytes : List ℕ) (p : Pieced) (ps : Vec RawPiece) (held : List RawPiece) → p ≡ found.Whole ps → IsPieced bytes p → held ≡ ps.items → HasPieces bytes (map piece_record held)
whole_found bytes p ps held is h same = subst (λ (l : List RawPiece). HasPieces bytes (map piece_record l)) (sym same) (subst (IsPieced bytes) is h)

pub cut_found : (bytes : List ℕ) (p : Pieced) (ps : Vec RawPiece) (place : ℕ) (held : List RawPiece) → p ≡ found.Until ps place → IsPieced bytes p → held ≡ ps.items → PiecesUntil bytes (map piece_record held) place
cut_found bytes p ps place held is h same = subst (λ (l : List RawPiece). PiecesUntil bytes (map piece_record l) place) (sym same) (subst (IsPieced bytes) is h)
