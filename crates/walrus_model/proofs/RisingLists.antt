-- Lists that rise by a key: two with the same members are one; and a list that is sorted by a key first rises by it, where no two have one key.
use Rattle.std.proofs.Common.{◌≡◌, ◌⊎◌, inl, inr, ⊎_elim, ℕ, ◌<◌, ◌≤◌, true, false, List, [], ◌∷◌, map, get_or, leb, refl, sym, ap, ap₂, ◌∙◌, subst, arith}
use Rattle.std.specs.Prelude.{All, AllPairs, Contains, nat_eq}
use Rattle.std.specs.Cmp.{IsTotalOrder, nat_cmp_is}
use Rattle.std.specs.List.{AllByRecursion, IsDistinct}
use Rattle.std.specs.List.Sorted.{IsSortedBy}
use Rattle.std.specs.Ordering.{nat_cmp, ordering_then, is_lt}
use Rattle.std.specs.declared.cmp.Ordering.{Ordering}
use Rattle.std.specs.declared.cmp.Ordering.TheVariants.{Less, Equal}
use Rattle.std.proofs.lemmas.Bool.Decides.{eqb_tells, leb_tells}
use Rattle.std.proofs.lemmas.Cmp.{nat_cmp_total, on_total, then_total}
use Rattle.std.proofs.lemmas.List.Elements.{All-contains}
use Rattle.std.proofs.lemmas.List.Kept.{AllPairs-cons}
use Rattle.std.proofs.lemmas.List.MinMax.{ranks_by}
use Rattle.std.proofs.lemmas.List.Sorted.{sorted_far}
use Rattle.walrus_base.proofs.Lists.{Contains-head, Contains-none, Contains-tail, Contains-uncons}
use Rattle.walrus_model.proofs.OrderOfPlaces.{pairs_head, pairs_tail}
use Rattle.walrus_model.proofs.Deciding.{all_so as all_by}

pub less_not_itself : (n m : ℕ) → n < m → n ≡ m → ⊥
less_not_itself n m less same = omega (arith, less, same)

module _ {X : Type 0} (key : X → ℕ) where
  abbrev pub Rises : List X → Type 0
  Rises xs = AllPairs (λ (a : X) (b : X). key a < key b) xs

  -- the first is below all others
  pub first_below : (x y : X) (xs : List X) → Rises (x ∷ xs) → Contains xs y → key x < key y
  first_below x y xs h c = All-contains (λ (z : X). key x < key z) xs y (pairs_head (λ (a : X) (b : X). key a < key b) x xs h) c

  pub later_rise : (x : X) (xs : List X) → Rises (x ∷ xs) → Rises xs
  later_rise x xs h = pairs_tail (λ (a : X) (b : X). key a < key b) x xs h

  pub rises_cons : (x : X) (xs : List X) → ((y : X) → Contains xs y → key x < key y) → Rises xs → Rises (x ∷ xs)
  rises_cons x xs low h = AllPairs-cons (λ (a : X) (b : X). key a < key b) x xs (all_by (λ (b : X). key x < key b) xs low) h

  -- the one has what the other has
  abbrev pub HasAll : List X → List X → Type 0
  HasAll xs ys = (z : X) → Contains xs z → Contains ys z

  same_first : (x y : X) (xs ys : List X) → Rises (x ∷ xs) → Rises (y ∷ ys) → (y ≡ x) ⊎ Contains ys x → (x ≡ y) ⊎ Contains xs y → x ≡ y
  same_first x y xs ys hx hy (inl e) back = sym e
  same_first x y xs ys hx hy (inr c) (inl e) = e
  same_first x y xs ys hx hy (inr c) (inr d) =
      let a : key y < key x = first_below y x ys hy c in
      let b : key x < key y = first_below x y xs hx d in
      absurd (omega (arith, a, b))

  -- what is behind the first of the one is behind that of the other
  behind : (x y : X) (xs ys : List X) → x ≡ y → Rises (x ∷ xs) → HasAll (x ∷ xs) (y ∷ ys) → HasAll xs ys
  behind x y xs ys same h there z c = ⊎_elim
      (λ (e : y ≡ z). absurd (less_not_itself (key x) (key z) (first_below x z xs h c) (ap key (same ∙ e))))
      (λ (d : Contains ys z). d)
      (Contains-uncons y z ys (there z (Contains-tail x z xs c)))

  pub same_members : (xs ys : List X) → Rises xs → Rises ys → HasAll xs ys → HasAll ys xs → xs ≡ ys
  same_members [] [] hx hy there back = refl
  same_members [] (y ∷ ys) hx hy there back = absurd (Contains-none y (back y (Contains-head y ys)))
  same_members (x ∷ xs) [] hx hy there back = absurd (Contains-none x (there x (Contains-head x xs)))
  same_members (x ∷ xs) (y ∷ ys) hx hy there back =
      let same : x ≡ y = same_first x y xs ys hx hy (Contains-uncons y x ys (there x (Contains-head x xs))) (Contains-uncons x y xs (back y (Contains-head y ys))) in
      ap₂ ◌∷◌ same (same_members xs ys (later_rise x xs hx) (later_rise y ys hy) (behind x y xs ys same hx there) (behind y x ys xs (sym same) hy back))

-- ---- sorted by a number, and then by something else

module _ {Y : Type 0} (rest : Y → Y → Ordering) (total : IsTotalOrder rest) where
  abbrev pub by_first : ℕ × Y → ℕ × Y → Ordering
  by_first a b = ordering_then (nat_cmp a.0 b.0) (rest a.1 b.1)

  first_total : IsTotalOrder by_first
  first_total = then_total (on_total (λ (a : ℕ × Y). a.0) nat_cmp_total) (on_total (λ (a : ℕ × Y). a.1) total)

  -- a stands before b
  abbrev pub Before : ℕ × Y → ℕ × Y → Type 0
  Before a b = (a.0 < b.0) ⊎ ((a.0 ≡ b.0) × (is_lt (rest b.1 a.1) ≡ false))

  untrue : true ≡ false → ⊥
  untrue e = cc

  module _ (a b : ℕ × Y) (far : is_lt (by_first b a) ≡ false) where
    not_after : b.0 < a.0 → ⊥
    not_after h = untrue (ap (λ (o : Ordering). is_lt (ordering_then o (rest b.1 a.1))) (nat_cmp_is b.0 a.0 Less h) ∙ far)

    tied : b.0 ≡ a.0 → is_lt (rest b.1 a.1) ≡ false
    tied h = ap (λ (o : Ordering). is_lt (ordering_then o (rest b.1 a.1))) (nat_cmp_is b.0 a.0 Equal h) ∙ far

    by_tests : ((leb b.0 a.0 ≡ true) × (b.0 ≤ a.0)) ⊎ ((leb b.0 a.0 ≡ false) × (a.0 < b.0)) → ((leb a.0 b.0 ≡ true) × (a.0 ≤ b.0)) ⊎ ((leb a.0 b.0 ≡ false) × (b.0 < a.0)) → Before a b
    by_tests (inr lt) t = inl lt.1
    by_tests (inl le) (inr lt) = absurd (not_after lt.1)
    by_tests (inl le) (inl ge) =
        let most : b.0 ≤ a.0 = le.1 in
        let least : a.0 ≤ b.0 = ge.1 in
        let same : a.0 ≡ b.0 = omega (arith, most, least) in
        inr (same, tied (sym same))

    stands_before : Before a b
    stands_before = by_tests (leb_tells b.0 a.0) (leb_tells a.0 b.0)

  pub sorted_pairs : (xs : List (ℕ × Y)) → IsSortedBy (λ x y. is_lt (by_first x y)) xs → AllPairs Before xs
  sorted_pairs xs up = λ i j d less low.
      let l : i < j = less in
      let within : i ≤ j = omega (arith, l) in
      stands_before (get_or xs i d) (get_or xs j d) (sorted_far (λ x y. is_lt (by_first x y)) (ranks_by first_total (λ (x : ℕ × Y). x)) xs up i j d within low)

  -- no two have one number: then they rise
  apart_from : (x y : ℕ × Y) (xs : List (ℕ × Y)) → AllByRecursion (λ n. nat_eq x.0 n ≡ false) (map (λ (e : ℕ × Y). e.0) xs) → Contains xs y → nat_eq x.0 y.0 ≡ false
  apart_from x y [] h c = absurd (Contains-none y c)
  apart_from x y (z ∷ xs) h c = ⊎_elim
      (λ (e : z ≡ y). subst (λ (w : ℕ × Y). nat_eq x.0 w.0 ≡ false) e h.0)
      (λ (d : Contains xs y). apart_from x y xs h.1 d)
      (Contains-uncons z y xs c)

  by_test : (n m : ℕ) → ((nat_eq n m ≡ true) × (n ≡ m)) ⊎ ((nat_eq n m ≡ false) × (n ≡ m → ⊥)) → nat_eq n m ≡ false → n ≡ m → ⊥
  by_test n m (inl t) apart same = untrue (sym t.0 ∙ apart)
  by_test n m (inr t) apart same = t.1 same

  not_same : (n m : ℕ) → nat_eq n m ≡ false → n ≡ m → ⊥
  not_same n m = by_test n m (eqb_tells n m)

  strictly_before : (x y : ℕ × Y) → nat_eq x.0 y.0 ≡ false → Before x y → x.0 < y.0
  strictly_before x y apart (inl less) = less
  strictly_before x y apart (inr tie) = absurd (not_same x.0 y.0 apart tie.0)

  pub strictly_rising : (xs : List (ℕ × Y)) → IsDistinct nat_eq (map (λ (e : ℕ × Y). e.0) xs) → AllPairs Before xs → Rises (λ (e : ℕ × Y). e.0) xs
  unfolding IsDistinct
  strictly_rising [] differ h = λ i j d less low. let l : j < 0 = low in absurd (omega (arith, l))
  strictly_rising (x ∷ xs) differ h =
      rises_cons (λ (e : ℕ × Y). e.0) x xs
      (λ y c. strictly_before x y (apart_from x y xs differ.0 c) (All-contains (Before x) xs y (pairs_head Before x xs h) c))
      (strictly_rising xs differ.1 (pairs_tail Before x xs h))
