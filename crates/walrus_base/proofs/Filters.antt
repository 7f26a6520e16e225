-- What a filter keeps.
use Rattle.std.proofs.Common.{◌≡◌, ◌⊎◌, Bool, true, false, List, [], ◌∷◌, inl, inr, refl, sym, ap, ◌∙◌, ⊎_elim, subst}
use Rattle.std.specs.Prelude.{filter, cond, Contains}
use Rattle.std.proofs.lemmas.Bool.{false≢true}
use Rattle.walrus_base.proofs.Lists.{Contains-head, Contains-tail, Contains-uncons, Contains-none}

module _ {X : Type 0} (p : X → Bool) where
  -- what is there and passes the test is kept
  pub in_filter : (xs : List X) (x : X) → Contains xs x → p x ≡ true → Contains (filter p xs) x
  in_filter [] x c passes = absurd (Contains-none x c)
  in_filter (y ∷ xs) x c passes = by (p y) refl (Contains-uncons y x xs c) (λ d. in_filter xs x d passes)
    where
      by : (t : Bool) → p y ≡ t → (y ≡ x) ⊎ Contains xs x → (Contains xs x → Contains (filter p xs) x) → Contains (cond t (y ∷ filter p xs) (filter p xs)) x
      by true e (inl same) rest = subst (Contains (y ∷ filter p xs)) same (Contains-head y (filter p xs))
      by true e (inr is) rest = Contains-tail y x (filter p xs) (rest is)
      by false e (inl same) rest = absurd (false≢true (sym e ∙ ap p same ∙ passes))
      by false e (inr is) rest = rest is

  -- what is kept was there, and passes the test
  pub from_filter : (xs : List X) (x : X) → Contains (filter p xs) x → Contains xs x × (p x ≡ true)
  from_filter [] x c = absurd (Contains-none x c)
  from_filter (y ∷ xs) x c = by (p y) refl c (from_filter xs x)
    where
      by : (t : Bool) → p y ≡ t → Contains (cond t (y ∷ filter p xs) (filter p xs)) x → (Contains (filter p xs) x → Contains xs x × (p x ≡ true)) → Contains (y ∷ xs) x × (p x ≡ true)
      by true e at rest = ⊎_elim
          (λ (same : y ≡ x). (subst (Contains (y ∷ xs)) same (Contains-head y xs), ap p (sym same) ∙ e))
          (λ later. let r = rest later in (Contains-tail y x xs r.0, r.1))
          (Contains-uncons y x (filter p xs) at)
      by false e at rest = let r = rest at in (Contains-tail y x xs r.0, r.1)
