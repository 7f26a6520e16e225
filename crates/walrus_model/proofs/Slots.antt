-- What stands among the entries of slots.
use Rattle.std.proofs.Common.{◌≡◌, ℕ, zero, suc, ◌+◌, ◌<◌, ⊎_elim, List, [], ◌∷◌, Some, None, ap, ap₂, ◌∙◌, subst, refl, arith}
use Rattle.std.specs.Prelude.{Option, Contains}
use Rattle.std.proofs.lemmas.Option.{none-some}
use Rattle.walrus_base.specs.Arena.{item_at, entries, entries_from, items}
use Rattle.walrus_base.proofs.Lists.{Contains-head, Contains-tail, Contains-uncons, Contains-none}
use Rattle.walrus_model.proofs.Reach.{Contains-unmap}

module _ {X : Type 0} where
  some_same : (x y : X) → Some x ≡ Some y → x ≡ y
  some_same x y e = cc

  entry_from : (k : ℕ) (slots : List (Option X)) (i n : ℕ) (x : X) → n ≡ k + i → item_at slots i ≡ Some x → Contains (entries_from k slots) (n, x)
  entry_from k [] i n x is at = absurd (none-some x at)
  entry_from k (None ∷ rest) zero n x is at = absurd (none-some x at)
  entry_from k (None ∷ rest) (suc i) n x is at = entry_from (k + 1) rest i n x (omega (arith, is)) at
  entry_from k (Some y ∷ rest) zero n x is at =
      let here : k ≡ n = omega (arith, is) in
      let same : (k, y) ≡ (n, x) = ap₂ (λ (m : ℕ) (z : X). (m, z)) here (some_same y x at) in
      subst (λ (e : ℕ × X). Contains ((k, y) ∷ entries_from (k + 1) rest) e) same (Contains-head (k, y) (entries_from (k + 1) rest))
  entry_from k (Some y ∷ rest) (suc i) n x is at = Contains-tail (k, y) (n, x) (entries_from (k + 1) rest) (entry_from (k + 1) rest i n x (omega (arith, is)) at)

  -- what stands at a place is an entry
  pub entry_in : (slots : List (Option X)) (i : ℕ) (x : X) → item_at slots i ≡ Some x → Contains (entries slots) (i, x)
  entry_in slots i x at = entry_from 0 slots i i x (omega arith) at

  -- an entry stands so many places behind the first one
  record StandsAt (k : ℕ) (slots : List (Option X)) (e : ℕ × X) : Type 0 where
    behind : ℕ
    place : e.0 ≡ k + behind
    item : item_at slots behind ≡ Some e.1

  later : (k : ℕ) (s : Option X) (rest : List (Option X)) (e : ℕ × X) → StandsAt (k + 1) rest e → StandsAt k (s ∷ rest) e
  later k s rest e f = record { behind = suc f.behind; place = let q : e.0 ≡ k + 1 + f.behind = f.place in omega (arith, q); item = f.item }

  stands_from : (k : ℕ) (slots : List (Option X)) (e : ℕ × X) → Contains (entries_from k slots) e → StandsAt k slots e
  stands_from k [] e c = absurd (Contains-none e c)
  stands_from k (None ∷ rest) e c = later k None rest e (stands_from (k + 1) rest e c)
  stands_from k (Some y ∷ rest) e c = ⊎_elim
      (λ (same : (k, y) ≡ e). subst (StandsAt k (Some y ∷ rest)) same (record { behind = 0; place = omega arith; item = refl }))
      (λ d. later k (Some y) rest e (stands_from (k + 1) rest e d))
      (Contains-uncons (k, y) e (entries_from (k + 1) rest) c)

  -- an entry stands at its place
  pub stands_at : (slots : List (Option X)) (e : ℕ × X) → Contains (entries slots) e → item_at slots e.0 ≡ Some e.1
  stands_at slots e c =
      let f = stands_from 0 slots e c in
      let here : f.behind ≡ e.0 = let r : e.0 ≡ 0 + f.behind = f.place in omega (arith, r) in
      subst (λ (n : ℕ). item_at slots n ≡ Some e.1) here f.item

  -- what is an item stands at a place
  pub item_seen : (slots : List (Option X)) (x : X) → Contains (items slots) x → (i : ℕ) × (item_at slots i ≡ Some x)
  item_seen slots x c =
      let from = Contains-unmap (λ (e : ℕ × X). e.1) (entries slots) x c in
      (from.0.0, stands_at slots from.0 from.1 ∙ ap (λ (y : X). Some y) from.2)

  -- ---- the first entry

  none_before : (rest : List (Option X)) (i : ℕ) → ((j : ℕ) → j < i → item_at rest j ≡ None) → (j : ℕ) → j < suc i → item_at (None ∷ rest) j ≡ None
  none_before rest i h zero lt = refl
  none_before rest i h (suc j) lt = h j (omega (arith, lt))

  -- it stands so many places behind the first one, and nothing before it
  record IsFirst (k : ℕ) (slots : List (Option X)) (e : ℕ × X) : Type 0 where
    behind : ℕ
    place : e.0 ≡ k + behind
    item : item_at slots behind ≡ Some e.1
    before : (j : ℕ) → j < behind → item_at slots j ≡ None

  first_from : (k : ℕ) (slots : List (Option X)) (e : ℕ × X) (rest : List (ℕ × X)) → entries_from k slots ≡ e ∷ rest → IsFirst k slots e
  first_from k [] e rest h = absurd cc
  first_from k (None ∷ more) e rest h =
      let f = first_from (k + 1) more e rest h in
      record { behind = suc f.behind; place = (let q : e.0 ≡ k + 1 + f.behind = f.place in omega (arith, q)); item = f.item; before = none_before more f.behind f.before }
  first_from k (Some y ∷ more) e rest h =
      let same : (k, y) ≡ e = cc in
      subst (IsFirst k (Some y ∷ more)) same (record { behind = 0; place = omega arith; item = refl; before = λ j lt. absurd (omega (arith, lt)) })

  -- the first entry stands at its place, and nothing before it
  pub first_there : (slots : List (Option X)) (e : ℕ × X) (rest : List (ℕ × X)) → entries slots ≡ e ∷ rest → (item_at slots e.0 ≡ Some e.1) × ((j : ℕ) → j < e.0 → item_at slots j ≡ None)
  first_there slots e rest h =
      let f = first_from 0 slots e rest h in
      let here : f.behind ≡ e.0 = let r : e.0 ≡ 0 + f.behind = f.place in omega (arith, r) in
      subst (λ (n : ℕ). (item_at slots n ≡ Some e.1) × ((j : ℕ) → j < n → item_at slots j ≡ None)) here (f.item, f.before)

  none_from : (k : ℕ) (slots : List (Option X)) → entries_from k slots ≡ [] → (j : ℕ) → item_at slots j ≡ None
  none_from k [] h j = refl
  none_from k (None ∷ rest) h zero = refl
  none_from k (None ∷ rest) h (suc j) = none_from (k + 1) rest h j
  none_from k (Some y ∷ rest) h j = absurd cc

  -- where no entry is, nothing stands
  pub none_there : (slots : List (Option X)) → entries slots ≡ [] → (j : ℕ) → item_at slots j ≡ None
  none_there slots h j = none_from 0 slots h j
