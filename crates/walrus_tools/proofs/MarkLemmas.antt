-- Marks that come place by place.
use Rattle.std.proofs.Common.{◌≡◌, ℕ, ◌+◌, ◌<◌, ◌≤◌, true, refl, ◌∙◌, subst, inl, inr, ⊎_elim, arith}
use Rattle.std.specs.Prelude.{◌⊎◌}
use Rattle.std.proofs.lemmas.Bool.{cases_lt}
use Rattle.walrus.specs.Base.Marks.{is_marked}
use Rattle.walrus.specs.Base.MarksValue.{Marks}
use Rattle.walrus_tools.specs.MarkSteps.{Adds, Meets}
use Rattle.walrus_tools.specs.declared.marks.Marking.{Marking}

-- ---- the same places, said otherwise

module _ {K : Type 0} (P Q : ℕ → Type 0) (to : (p : ℕ) → P p → Q p) (back : (p : ℕ) → Q p → P p) where
  pub adds_as : (old new : Marks K) → Adds P old new → Adds Q old new
  adds_as old new a = record {
    added = λ p q. a.added p (back p q);
    stay = a.stay;
    only = λ p h. ⊎_elim (λ (was : is_marked old p ≡ true). inl was) (λ (is : P p). inr (to p is)) (a.only p h);
    places = a.places;
  }

  pub meets_as : (old new : Marking K) → Meets P old new → Meets Q old new
  meets_as old new m = record {
    adds = adds_as old.marks new.marks m.adds;
    met = λ p q. m.met p (back p q);
    stays = m.stays;
    only = λ h. ⊎_elim (λ (was : old.is_met ≡ true). inl was) (λ (is : (p : ℕ) × P p). inr (is.0, to is.0 is.1)) (m.only h);
  }

-- ---- two steps

module _ {K : Type 0} (P Q : ℕ → Type 0) where
  adds_both : (old mid new : Marks K) → Adds P old mid → Adds Q mid new → Adds (λ p. P p ⊎ Q p) old new
  adds_both old mid new a b = record {
    added = λ p h. ⊎_elim (λ (is : P p). b.stay p (a.added p is)) (λ (is : Q p). b.added p is) h;
    stay = λ p h. b.stay p (a.stay p h);
    only = λ p h. ⊎_elim
        (λ (was : is_marked mid p ≡ true). ⊎_elim (λ (before : is_marked old p ≡ true). inl before) (λ (is : P p). inr (inl is)) (a.only p was))
        (λ (is : Q p). inr (inr is))
        (b.only p h);
    places = b.places ∙ a.places;
  }

  pub meets_both : (old mid new : Marking K) → Meets P old mid → Meets Q mid new → Meets (λ p. P p ⊎ Q p) old new
  meets_both old mid new a b = record {
    adds = adds_both old.marks mid.marks new.marks a.adds b.adds;
    met = λ p h. ⊎_elim (λ (is : P p). b.stays (a.met p is)) (λ (is : Q p). b.met p is) h;
    stays = λ h. b.stays (a.stays h);
    only = λ h. ⊎_elim
        (λ (was : mid.is_met ≡ true). ⊎_elim (λ (before : old.is_met ≡ true). inl before) (λ (is : (p : ℕ) × P p). inr (is.0, inl is.1)) (a.only was))
        (λ (is : (p : ℕ) × Q p). inr (is.0, inr is.1))
        (b.only h);
  }

-- ---- place by place

module _ (R : ℕ → ℕ → Type 0) where
  -- what the first k places bring
  abbrev pub Below : (k p : ℕ) → Type 0
  Below k p = (i : ℕ) × (i < k) × R i p

  none_below : (p : ℕ) → Below 0 p → ⊥
  none_below p h = let lt : h.0 < 0 = h.1 in omega (arith, lt)

  above : (k p : ℕ) → Below k p ⊎ R k p → Below (k + 1) p
  above k p (inl h) = let lt : h.0 < k = h.1 in (h.0, omega (arith, lt), h.2)
  above k p (inr h) = (k, omega arith, h)

  beneath : (k p : ℕ) → Below (k + 1) p → Below k p ⊎ R k p
  beneath k p h = let lt : h.0 < k + 1 = h.1 in ⊎_elim
      (λ (less : h.0 < k). inl (h.0, less, h.2))
      (λ (more : k ≤ h.0). inr (let is : h.0 ≡ k = omega (arith, lt, more) in subst (λ (i : ℕ). R i p) is h.2))
      (cases_lt h.0 k)

  pub meets_none : {K : Type 0} (marking : Marking K) → Meets (Below 0) marking marking
  meets_none marking = record {
    adds = record { added = λ p h. absurd (none_below p h); stay = λ p h. h; only = λ p h. inl h; places = refl };
    met = λ p h. absurd (none_below p h);
    stays = λ h. h;
    only = λ h. inl h;
  }

  pub meets_more : {K : Type 0} (k : ℕ) (old mid new : Marking K) → Meets (Below k) old mid → Meets (R k) mid new → Meets (Below (k + 1)) old new
  meets_more k old mid new a b = meets_as (λ p. Below k p ⊎ R k p) (Below (k + 1)) (above k) (beneath k) old new (meets_both (Below k) (R k) old mid new a b)

  -- behind the last place all is brought
  pub meets_all : {K : Type 0} (n k : ℕ) → n ≤ k → ((i p : ℕ) → R i p → i < n) → (old new : Marking K) → Meets (Below k) old new → Meets (λ p. (i : ℕ) × R i p) old new
  meets_all n k le few old new m = meets_as (Below k) (λ p. (i : ℕ) × R i p) (λ p h. (h.0, h.2)) (λ p h. let lt : h.0 < n = few h.0 p h.1 in (h.0, omega (arith, lt, le), h.1)) old new m
