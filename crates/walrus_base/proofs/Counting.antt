-- Counting: where each of so many numbers has a place of its own, there are as many places.
use Rattle.std.proofs.Common.{◌≡◌, ◌≢◌, ℕ, zero, suc, ◌+◌, ◌<◌, ◌≤◌, Bool, true, false, List, [], ◌∷◌, length, get_or, refl, sym, ap, ◌∙◌, subst, arith, inl, inr}
use Rattle.std.specs.Prelude.{All, AllPairs, Contains, ◌||◌, ◌==◌}
use Rattle.std.specs.List.{list_any}
use Rattle.std.proofs.lemmas.Bool.Decides.{Decides-eqb}
use Rattle.std.proofs.lemmas.Grind.{get_or_default_zero}
use Rattle.std.proofs.lemmas.Map.Made.{IsDistinct-from_AllPairs}
use Rattle.std.proofs.lemmas.Map.Steps.{length-le_from_distinct_below}
use Rattle.walrus_base.proofs.Agree.{Compared, compared}

any_below : (n q : ℕ) (xs : List ℕ) → All (λ (x : ℕ). x < n) xs → list_any (λ y. q == y) xs ≡ true → q < n
any_below n q [] below e = absurd cc
any_below n q (x ∷ xs) below e = by (q == x) refl e (any_below n q xs (λ k d lt. below (suc k) d (omega (arith, lt)))) where
  by : (t : Bool) → (q == x) ≡ t → (t || list_any (λ y. q == y) xs) ≡ true → (list_any (λ y. q == y) xs ≡ true → q < n) → q < n
  by true same h rest = let e : q ≡ x = (Decides-eqb q x).0 same in let lt : x < n = below 0 0 (omega arith) in omega (arith, e, lt)
  by false same h rest = rest h

few_below : (n : ℕ) (xs : List ℕ) → AllPairs (λ (x : ℕ) (y : ℕ). x ≢ y) xs → All (λ (x : ℕ). x < n) xs → length xs ≤ n
few_below n xs apart below = length-le_from_distinct_below xs n (IsDistinct-from_AllPairs Decides-eqb xs apart) (λ q h. any_below n q xs below h)

module _ (n : ℕ) (R : ℕ → ℕ → Type 0) where
  abbrev Places : ℕ → ℕ → Type 0
  Places low count = (m : ℕ) → low ≤ m → m < low + count → (k : ℕ) × (k < n) × R m k

  record Chosen (low count : ℕ) : Type 0 where
    places : List ℕ
    long : length places ≡ count
    are : (i e : ℕ) → i < count → (get_or places i e < n) × R (low + i) (get_or places i e)

  choose : (low count : ℕ) → Places low count → Chosen low count
  choose low zero h = record { places = []; long = refl; are = λ i e lt. absurd (omega (arith, lt)) }
  choose low (suc count) h =
      let here = h low (omega arith) (omega arith) in
      let rest = choose (low + 1) count (λ m le lt. h m (omega (arith, le)) (omega (arith, lt))) in
      record { places = here.0 ∷ rest.places; long = ap suc rest.long; are = by here rest }
    where
      by : (here : (k : ℕ) × (k < n) × R low k) (rest : Chosen (low + 1) count) (i e : ℕ) → i < suc count → (get_or (here.0 ∷ rest.places) i e < n) × R (low + i) (get_or (here.0 ∷ rest.places) i e)
      by here rest zero e lt = (here.1, subst (λ m. R m here.0) (let p : low ≡ low + 0 = omega arith in p) here.2)
      by here rest (suc i) e lt =
          let a = rest.are i e (omega (arith, lt)) in
          (a.0, subst (λ m. R m (get_or rest.places i e)) (let p : low + 1 + i ≡ low + suc i = omega arith in p) a.1)

  -- no place is two numbers' own
  pub has_room : (low count : ℕ) → Places low count → ((m l k : ℕ) → R m k → R l k → m ≡ l) → count ≤ n
  has_room low count h own =
      let chosen = choose low count h in
      let few = few_below n chosen.places
      (λ i j d before last same.
      let last_in : j < count = subst (λ x. j < x) chosen.long last in
      let first = (chosen.are i d (omega (arith, before, last_in))).1 in
      let second = (chosen.are j d last_in).1 in
      let one : low + i ≡ low + j = own (low + i) (low + j) (get_or chosen.places i d) first (subst (λ k. R (low + j) k) (sym same) second) in
      omega (arith, one, before))
      (λ i d lt. (chosen.are i d (subst (λ x. i < x) chosen.long lt)).0) in
      subst (λ x. x ≤ n) chosen.long few

one_by : (xs : List ℕ) → AllPairs (λ (x : ℕ) (y : ℕ). x ≢ y) xs → (m o : ℕ) → m < length xs → o < length xs → get_or xs m 0 ≡ get_or xs o 0 → Compared m o → m ≡ o
one_by xs apart m o lm lo e (inl lt) = absurd (apart m o 0 lt lo e)
one_by xs apart m o lm lo e (inr (inl is)) = is
one_by xs apart m o lm lo e (inr (inr lt)) = absurd (apart o m 0 lt lm (sym e))

-- what stands in a list of distinct numbers has one place in it
pub one_place : (xs : List ℕ) → AllPairs (λ (x : ℕ) (y : ℕ). x ≢ y) xs → (m o : ℕ) → m < length xs → o < length xs → get_or xs m 0 ≡ get_or xs o 0 → m ≡ o
one_place xs apart m o lm lo e = one_by xs apart m o lm lo e (compared m o)

-- distinct numbers that all stand in a list are no more than its own
pub no_longer : (xs ys : List ℕ) → AllPairs (λ (x : ℕ) (y : ℕ). x ≢ y) xs → All (Contains ys) xs → length xs ≤ length ys
no_longer xs ys apart within =
    has_room (length ys) (λ m k. (m < length xs) × (get_or ys k 0 ≡ get_or xs m 0)) 0 (length xs)
    (λ m le lt.
    let there : m < length xs = omega (arith, lt) in
    let at : Contains ys (get_or xs m 0) = within m 0 there in
    (at.0, at.1, (there, sym (get_or_default_zero ys at.0 (get_or xs m 0) at.1) ∙ at.2)))
    (λ m l k p q. one_place xs apart m l p.0 q.0 (sym p.1 ∙ q.1))
