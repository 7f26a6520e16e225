-- Indices that are given to the items at the first places, in their order.
use Rattle.std.proofs.Common.{◌≡◌, ℕ, ◌+◌, ◌≤◌, ◌^◌, Bool, true, false, Some, None, min, refl, sym, ap, ◌∙◌, subst, arith}
use Rattle.std.proofs.lemmas.Bool.{eqb-false, eqb-true}
use Rattle.std.specs.Prelude.{nat_eq}
use Rattle.wasm_forms.proofs.Bind.{some_same}
use Rattle.walrus_code.specs.Indices.{AddsIndex, given_in, index_in}
use Rattle.walrus_code.specs.declared.numbering.Numbering.{Numbering}
use Rattle.walrus_edit_list.specs.Joined.{IsPlaceItself}

-- so many places in front have their own numbers, and no other one has any
pub record AreFirst {K : Type 0} (numbers : Numbering K) (count : ℕ) : Type 0 where
  pub counted : given_in numbers ≡ count
  pub own : IsPlaceItself (index_in numbers)
  pub others : (n : ℕ) → count ≤ n → index_in numbers n ≡ None

module _ {K : Type 0} where
  pub begins : (numbers : Numbering K) → given_in numbers ≡ 0 → ((n : ℕ) → index_in numbers n ≡ None) → AreFirst numbers 0
  begins numbers none nowhere = record {
    counted = none;
    own = λ n found is. not_none found (sym is ∙ nowhere n);
    others = λ n low. nowhere n;
  }
    where
      not_none : {n : ℕ} (found : ℕ) → Some found ≡ None → found ≡ n
      not_none found is = absurd (cc)

  module _ (old new : Numbering K) (at : ℕ) (a : AreFirst old at) (h : AddsIndex old new at) where
    own_by : (n found : ℕ) (t : Bool) → nat_eq n at ≡ t → index_in new n ≡ Some found → found ≡ n
    own_by n found true same is =
        let here : n ≡ at = eqb-true n at same in
        some_same found (given_in old) (sym is ∙ ap (λ (k : ℕ). index_in new k) here ∙ h.numbered) ∙ a.counted ∙ sym here
    own_by n found false same is = a.own n found (sym (h.kept n (eqb-false n at same)) ∙ is)

    beyond : (n : ℕ) → at + 1 ≤ n → n ≡ at → ⊥
    beyond n low same = omega (arith, low, same)

    below_it : (n : ℕ) → at + 1 ≤ n → at ≤ n
    below_it n low = omega (arith, low)

    goes_on : AreFirst new (at + 1)
    goes_on = record {
      counted = h.counted ∙ ap (λ (k : ℕ). k + 1) a.counted;
      own = λ n found is. own_by n found (nat_eq n at) refl is;
      others = λ n low. h.kept n (beyond n low) ∙ a.others n (below_it n low);
    }

  pub new_at : (numbers : Numbering K) (at id : ℕ) → id ≡ at → AreFirst numbers at → index_in numbers id ≡ None
  new_at numbers at id is a = ap (λ (n : ℕ). index_in numbers n) is ∙ a.others at (same at)
    where
      same : (n : ℕ) → n ≤ n
      same n = omega arith

  pub turn : (old new : Numbering K) (at id : ℕ) → id ≡ at → AreFirst old at → AddsIndex old new id → AreFirst new (at + 1)
  turn old new at id is a h = goes_on old new at a (subst (λ (n : ℕ). AddsIndex old new n) is h)

pub at_most : (count most : ℕ) → most ≡ min count (2 ^ 32) → most ≤ 2 ^ 32
at_most count most is = omega (arith, is)
