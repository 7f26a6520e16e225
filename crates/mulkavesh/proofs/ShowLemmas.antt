-- What is shown of a text, piece by piece.
use Rattle.std.proofs.Common.{◌≡◌, ℕ, zero, suc, ◌+◌, ◌<◌, List, [], ◌∷◌, ◌++◌, take, drop, length, length-drop, ap₂, refl, sym, ap, ◌∙◌, append_assoc, arith}
use Rattle.std.proofs.Math.Seq.{drop-drop, take-add}
use Rattle.std.proofs.Math.Dec.{eqb-suc-zero}
use Rattle.std.proofs.Math.Numerals.{sub-one}
use Rattle.mulkavesh.specs.Visible.{hidden_length, shown, shown_behind}

-- what is left out stands in front
pub left_out : (left : ℕ) (text : List ℕ) → shown_behind left text ≡ shown (drop left text)
left_out left [] = ap (λ (l : List ℕ). shown l) (sym (drop_nil left))
  where
    drop_nil : (n : ℕ) → drop {A = ℕ} n [] ≡ []
    drop_nil zero = refl
    drop_nil (suc n) = refl
left_out zero (byte ∷ rest) = refl
left_out (suc left) (byte ∷ rest) = left_out left rest

-- a byte that is shown as it is
pub plain_first : (text : List ℕ) → 0 < length text → hidden_length text ≡ 0 → shown text ≡ take 1 text ++ shown (drop 1 text)
plain_first [] some plain = absurd (omega arith)
plain_first (byte ∷ rest) some plain = rw plain refl

-- a character that isn't
pub hidden_first : (text : List ℕ) → 0 < hidden_length text → shown text ≡ (63 ∷ []) ++ shown (drop (hidden_length text) text)
hidden_first [] some = absurd (omega arith)
hidden_first (byte ∷ rest) some = by_length (hidden_length (byte ∷ rest)) refl some
  where
    by_length : (n : ℕ) → hidden_length (byte ∷ rest) ≡ n → 0 < n → shown (byte ∷ rest) ≡ (63 ∷ []) ++ shown (drop n (byte ∷ rest))
    by_length zero is more = absurd (omega arith)
    by_length (suc n) is more = rw (is, eqb-suc-zero n, sub-one (suc n)) (ap (λ (l : List ℕ). 63 ∷ l) (left_out n rest))

-- one byte more that is shown as it is
pub plain_next : (at : ℕ) (text : List ℕ) → at < length text → hidden_length (drop at text) ≡ 0 → shown text ≡ take at text ++ shown (drop at text) → shown text ≡ take (at + 1) text ++ shown (drop (at + 1) text)
plain_next at text more plain so =
    let behind = plain_first (drop at text) (omega (arith, length-drop at text)) plain in
    so ∙ ap (λ (l : List ℕ). take at text ++ l) behind ∙ sym (append_assoc (take at text) (take 1 (drop at text)) (shown (drop 1 (drop at text))))
    ∙ ap₂ (λ (xs ys : List ℕ). xs ++ shown ys) (sym (take-add at 1 text)) (drop-drop 1 at text)
