-- Where a collection counts no item, none is there; where it counts one, one is.
use Rattle.std.proofs.Common.{◌≡◌, ℕ, zero, suc, ◌+◌, List, [], ◌∷◌, Bool, true, false, cond, refl, sym, ◌∙◌, arith}
use Rattle.std.proofs.lemmas.Bool.{false≢true}
use Rattle.std.proofs.lemmas.List.Sums.{sum_by-cons}
use Rattle.std.specs.Prelude.{Option, Some, None, IsTrue, ◌↔◌, not, count_by, is_some}
use Rattle.walrus_base.specs.Arena.{item_at}

none_counted : {X : Type 0} (slots : List (Option X)) → count_by is_some slots ≡ 0 → (i : ℕ) → item_at slots i ≡ None
none_counted [] h i = refl
none_counted (None ∷ rest) h zero = refl
none_counted (None ∷ rest) h (suc i) = none_counted rest h i
none_counted {X} (Some x ∷ rest) h i =
    let is : count_by is_some (Some x ∷ rest) ≡ 1 + count_by is_some rest = sum_by-cons (λ (s : Option X). cond (is_some s) 1 0) (Some x) rest in
    absurd (suc_zero (count_by is_some rest) (sym h ∙ is)) where
      suc_zero : (n : ℕ) → 0 ≡ 1 + n → ⊥
      suc_zero n e = omega (arith, e)

one_counted : {X : Type 0} (slots : List (Option X)) → (count_by is_some slots ≡ 0 → ⊥) → (i : ℕ) × (x : X) × (item_at slots i ≡ Some x)
one_counted [] h = absurd (h refl)
one_counted (None ∷ rest) h = let q = one_counted rest h in (suc q.0, q.1, q.2)
one_counted (Some x ∷ rest) h = (0, x, refl)

-- by what a collection says of itself
module _ {X : Type 0} (slots : List (Option X)) where
  pub none_there : (is_empty : Bool) → IsTrue is_empty ↔ (count_by is_some slots ≡ 0) → not is_empty ≡ false → (i : ℕ) → item_at slots i ≡ None
  none_there true says is = none_counted slots (says.0 refl)
  none_there false says is = absurd (false≢true (sym is))

  pub one_there : (is_empty : Bool) → IsTrue is_empty ↔ (count_by is_some slots ≡ 0) → not is_empty ≡ true → (i : ℕ) × (x : X) × (item_at slots i ≡ Some x)
  one_there false says is = one_counted slots (λ e. false≢true (says.1 e))
  one_there true says is = absurd (false≢true is)
