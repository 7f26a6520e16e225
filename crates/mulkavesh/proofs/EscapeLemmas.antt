-- What is written of a string for programs, character by character.
use Rattle.std.proofs.Common.{◌≡◌, ℕ, zero, suc, ◌<◌, List, [], ◌∷◌, ◌++◌, take, drop, refl, sym, ap, ap₂, ◌∙◌, append_assoc, arith}
use Rattle.std.proofs.Math.Dec.{eqb-suc-zero}
use Rattle.std.proofs.Math.Numerals.{sub-one}
use Rattle.mulkavesh.specs.Json.{code_of, escape, escaped, escaped_behind}
use Rattle.mulkavesh.specs.Visible.{hidden_length}

-- what is left out stands in front
left_out : (left : ℕ) (text : List ℕ) → escaped_behind left text ≡ escaped (drop left text)
left_out left [] = ap (λ (l : List ℕ). escaped l) (sym (drop_nil left))
  where
    drop_nil : (n : ℕ) → drop {A = ℕ} n [] ≡ []
    drop_nil zero = refl
    drop_nil (suc n) = refl
left_out zero (byte ∷ rest) = refl
left_out (suc left) (byte ∷ rest) = left_out left rest

-- a character that people don't see
hidden_first : (text : List ℕ) → 0 < hidden_length text → escaped text ≡ escape (code_of (take (hidden_length text) text)) ++ escaped (drop (hidden_length text) text)
hidden_first [] some = absurd (omega arith)
hidden_first (byte ∷ rest) some = by_length (hidden_length (byte ∷ rest)) refl some
  where
    by_length : (n : ℕ) → hidden_length (byte ∷ rest) ≡ n → 0 < n → escaped (byte ∷ rest) ≡ escape (code_of (take n (byte ∷ rest))) ++ escaped (drop n (byte ∷ rest))
    by_length zero is more = absurd (omega arith)
    by_length (suc n) is more = rw (is, eqb-suc-zero n, sub-one (suc n)) (ap (λ (l : List ℕ). escape (code_of (take (suc n) (byte ∷ rest))) ++ l) (left_out n rest))

-- that character is escaped, and the rest is as before
pub step : (text character behind all before after : List ℕ) (hidden code : ℕ) → hidden ≡ hidden_length text → 0 < hidden → character ≡ take hidden text → behind ≡ drop hidden text → code ≡ code_of character
    → before ++ escaped text ≡ all → after ≡ before ++ escape code → after ++ escaped behind ≡ all
step text character behind all before after hidden code is some front back told so put =
    let first : escaped text ≡ escape code ++ escaped behind =
    hidden_first text (omega (arith, is, some))
    ∙ ap₂ (λ (c b : List ℕ). escape (code_of c) ++ escaped b) (ap (λ (n : ℕ). take n text) (sym is) ∙ sym front) (ap (λ (n : ℕ). drop n text) (sym is) ∙ sym back)
    ∙ ap (λ (n : ℕ). escape n ++ escaped behind) (sym told) in
    ap (λ (l : List ℕ). l ++ escaped behind) put ∙ append_assoc before (escape code) (escaped behind) ∙ ap (λ (l : List ℕ). before ++ l) (sym first) ∙ so
