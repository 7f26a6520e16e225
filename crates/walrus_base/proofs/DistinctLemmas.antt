-- Places that differ.
use Rattle.std.proofs.Common.{◌≡◌, ℕ, ◌||◌, Bool, true, false, List, [], ◌∷◌, ◌++◌, refl, sym, ap, ap₂, ◌∙◌, subst}
use Rattle.std.specs.Prelude.{nat_eq, not}
use Rattle.std.specs.List.{IsDistinct, AllByRecursion, list_any}
use Rattle.std.proofs.lemmas.Cmp.{nat_eq_equiv}

pub at_seam : (P : ℕ → Type 0) (xs : List ℕ) (t : ℕ) (rest : List ℕ) → AllByRecursion P (xs ++ t ∷ rest) → P t
at_seam P [] t rest h = h.0
at_seam P (x ∷ xs) t rest h = at_seam P xs t rest h.1

-- what stands behind others that differ from it isn't among them
pub not_before : (xs : List ℕ) (t : ℕ) (rest : List ℕ) → IsDistinct nat_eq (xs ++ t ∷ rest) → list_any (nat_eq t) xs ≡ false
unfolding IsDistinct
not_before [] t rest h = refl
not_before (x ∷ xs) t rest h = ap₂ (λ a b. a || b) (nat_eq_equiv.symm t x ∙ at_seam (λ y. nat_eq x y ≡ false) xs t rest h.0) (not_before xs t rest h.1)

pub twice : (xs all : List ℕ) (t : ℕ) (rest : List ℕ) → all ≡ xs ++ t ∷ rest → list_any (nat_eq t) xs ≡ true → IsDistinct nat_eq all → ⊥
twice xs all t rest parts again h =
    let apart : IsDistinct nat_eq (xs ++ t ∷ rest) = subst (λ (ys : List ℕ). IsDistinct nat_eq ys) parts h in
    let wrong : true ≡ false = sym again ∙ not_before xs t rest apart in
    absurd cc

pub not_false : (r b : Bool) → r ≡ not b → r ≡ false → b ≡ true
not_false r true is e = refl
not_false r false is e = absurd cc

pub not_true : (r b : Bool) → r ≡ not b → r ≡ true → b ≡ false
not_true r true is e = absurd cc
not_true r false is e = refl

-- one more place
pub among-more : (q p : ℕ) (xs : List ℕ) → list_any (nat_eq q) (xs ++ p ∷ []) ≡ (list_any (nat_eq q) xs || nat_eq q p)
among-more q p [] = go (nat_eq q p)
  where
    go : (b : Bool) → (b || false) ≡ (false || b)
    go true = refl
    go false = refl
among-more q p (x ∷ xs) = ap (λ (b : Bool). nat_eq q x || b) (among-more q p xs) ∙ sym (or_assoc (nat_eq q x) (list_any (nat_eq q) xs) (nat_eq q p))
  where
    or_assoc : (a b c : Bool) → ((a || b) || c) ≡ (a || (b || c))
    or_assoc true b c = refl
    or_assoc false b c = refl
