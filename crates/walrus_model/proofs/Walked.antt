-- A walk along the items of an index space.
use Rattle.std.proofs.Common.{◌≡◌, ℕ, inl, inr, ◌⊎◌, ⊎_elim, List, [], ◌∷◌, Some, None, sym, subst, refl}
use Rattle.std.specs.Prelude.{Option, IsSome, Contains}
use Rattle.std.proofs.lemmas.Bool.{false≢true}
use Rattle.walrus_base.specs.Arena.{item_at, entries}
use Rattle.walrus_base.proofs.Lists.{Contains-head, Contains-tail, Contains-uncons, Contains-none}
use Rattle.walrus_model.proofs.Slots.{entry_in, stands_at}

module _ {X : Type 0} (Good : ℕ → Type 0) (slots : List (Option X)) where
  -- what is left is there, and what isn't left is good
  pub record Walked (left : List (ℕ × X)) : Type 0 where
    pub there : (e : ℕ × X) → Contains left e → item_at slots e.0 ≡ Some e.1
    pub rest : (e : ℕ × X) → Contains (entries slots) e → Contains left e ⊎ Good e.0

  -- at its beginning all is left
  pub walk_begins : (left : List (ℕ × X)) → left ≡ entries slots → Walked left
  walk_begins left all = subst Walked (sym all) (record { there = stands_at slots; rest = λ e c. inl c })

  pub next_there : (left after : List (ℕ × X)) (e : ℕ × X) → left ≡ e ∷ after → Walked left → item_at slots e.0 ≡ Some e.1
  next_there left after e steps w = w.there e (subst (λ (es : List (ℕ × X)). Contains es e) (sym steps) (Contains-head e after))

  -- a step past what is good
  pub walk_goes : (left after : List (ℕ × X)) (e : ℕ × X) → left ≡ e ∷ after → Good e.0 → Walked left → Walked after
  walk_goes left after e steps good w = record {
    there = λ d c. w.there d (subst (λ (es : List (ℕ × X)). Contains es d) (sym steps) (Contains-tail e d after c));
    rest = λ d c. ⊎_elim
        (λ k. ⊎_elim (λ (same : e ≡ d). inr (subst (λ (x : ℕ × X). Good x.0) same good)) (λ h. inl h) (Contains-uncons e d after (subst (λ (es : List (ℕ × X)). Contains es d) steps k)))
        (λ g. inr g)
        (w.rest d c);
  }

  found_good : (i : ℕ) (o : Option X) → item_at slots i ≡ o → IsSome o → Walked [] → Good i
  found_good i (Some x) at s w = ⊎_elim (λ k. absurd (Contains-none (i, x) k)) (λ g. g) (w.rest (i, x) (entry_in slots i x at))
  found_good i None at s w = absurd (false≢true s)

  -- at its end all is good
  pub walk_ends : (left : List (ℕ × X)) → left ≡ [] → Walked left → (i : ℕ) → IsSome (item_at slots i) → Good i
  walk_ends left none w i s = found_good i (item_at slots i) refl s (subst Walked none w)
