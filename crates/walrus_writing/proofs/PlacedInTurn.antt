-- The places of bodies that are looked at in another order.
use Rattle.std.proofs.Common.{◌≡◌, ℕ, suc, ◌+◌, ◌<◌, ◌≤◌, List, [], ◌∷◌, ◌++◌, drop, flat_map, length, map, refl, sym, ap, ap₂, subst, arith, IsPermutation}
use Rattle.std.specs.Prelude.{All, slice_index_or, true}
use Rattle.std.proofs.lemmas.List.{drop_all, drop_more, get_or-map, length-map}
use Rattle.std.proofs.lemmas.List.Elements.{All-cons, All-nil}
use Rattle.std.proofs.lemmas.List.Sorted.{All-permutation, IsPermutation-trans}
use Rattle.walrus_writing.specs.Located.{LastPlaces, all_placed_from, placed_at, places_in}
use Rattle.walrus_writing.proofs.Permuted.{joined_permuted}

-- ---- the places of a list

pub places_step : {X : Type 0} (xs : List X) (i : ℕ) → i < length xs → places_in i (drop i xs) ≡ (i ∷ []) ++ places_in (i + 1) (drop (i + 1) xs)
places_step [] i low = absurd (omega (arith, low))
places_step (x ∷ xs) i low = ap (places_in i) (drop_more (x ∷ xs) i x low)

pub places_end : {X : Type 0} (xs : List X) (i : ℕ) → length xs ≤ i → places_in i (drop i xs) ≡ []
places_end xs i past = ap (places_in i) (drop_all i xs past)

-- they follow from its length
pub same_places : {X Y : Type 0} (n : ℕ) (xs : List X) (ys : List Y) → length xs ≡ length ys → places_in n xs ≡ places_in n ys
same_places n [] [] same = refl
same_places n [] (y ∷ ys) same = absurd (omega (arith, same))
same_places n (x ∷ xs) [] same = absurd (omega (arith, same))
same_places n (x ∷ xs) (y ∷ ys) same = ap (λ (l : List ℕ). n ∷ l) (same_places (n + 1) xs ys (omega (arith, same)))

-- and are below it
below : {X : Type 0} (n m : ℕ) (xs : List X) → n + length xs ≡ m → All (λ (k : ℕ). k < m) (places_in n xs)
below n m [] is = All-nil (λ (k : ℕ). k < m)
below n m (x ∷ xs) is = All-cons (λ (k : ℕ). k < m) n (places_in (n + 1) xs) (omega (arith, is)) (below (n + 1) m xs (omega (arith, is)))

pub turn_below : {X Y : Type 0} (g : Y → ℕ) (xs : List X) (turns : List Y) → IsPermutation (places_in 0 xs) (map g turns) → (i : ℕ) (d : Y) → i < length turns → g (slice_index_or turns i d) < length xs
turn_below g xs turns each i d low = subst (λ (k : ℕ). k < length xs) (get_or-map g turns i d 0 low)
    (All-permutation (λ (k : ℕ). k < length xs) (places_in 0 xs) (map g turns) each (below 0 (length xs) xs (omega arith)) i 0 (omega (arith, low, length-map turns g)))

pub each_turn : {X Y Z : Type 0} (g : Z → ℕ) (xs : List X) (ys : List Y) (turns lent : List Z) → length xs ≡ length ys → lent ≡ turns → IsPermutation (places_in 0 xs) (map g turns) → IsPermutation (places_in 0 ys) (map g lent)
each_turn {X} {Y} {Z} g xs ys turns lent same is each = subst (λ (l : List ℕ). IsPermutation l (map g lent)) (same_places 0 xs ys same) (subst (λ (l : List Z). IsPermutation (places_in 0 xs) (map g l)) (sym is) each)

-- ---- the locations of the bodies at these places

pub joined_step : {X B : Type 0} (f : ℕ → List B) (g : X → ℕ) (xs : List X) (i : ℕ) (d : X) → i < length xs
    → flat_map f (map g (drop i xs)) ≡ f (g (slice_index_or xs i d)) ++ flat_map f (map g (drop (i + 1) xs))
joined_step {X} f g xs i d low = ap (λ (l : List X). flat_map f (map g l)) (drop_more xs i d low)

pub joined_end : {X B : Type 0} (f : ℕ → List B) (g : X → ℕ) (xs : List X) (i : ℕ) → length xs ≤ i → flat_map f (map g (drop i xs)) ≡ []
joined_end {X} f g xs i past = ap (λ (l : List X). flat_map f (map g l)) (drop_all i xs past)

-- in their own order they are those of all bodies
in_order : (f : ℕ → List (ℕ × ℕ)) (n : ℕ) (starts : List ℕ) (offsets : List (List (ℕ × ℕ))) → length starts ≡ length offsets
    → ((k j : ℕ) → j ≡ n + k → k < length starts → f j ≡ placed_at starts offsets k) → flat_map f (places_in n starts) ≡ all_placed_from starts offsets
in_order f n [] [] same each = refl
in_order f n [] (o ∷ os) same each = refl
in_order f n (s ∷ ss) [] same each = absurd (omega (arith, same))
in_order f n (s ∷ ss) (o ∷ os) same each = ap₂ (λ (a b : List (ℕ × ℕ)). a ++ b) (each 0 n (omega arith) (omega arith))
    (in_order f (n + 1) ss os (omega (arith, same)) (λ k j is low. each (suc k) j (omega (arith, is)) (omega (arith, low))))

-- and in another one the same in another order
pub in_turn : {X : Type 0} (xs : List X) (starts : List ℕ) (offsets : List (List (ℕ × ℕ))) (turns : List ℕ) (found : List (ℕ × ℕ)) → length xs ≡ length starts → length starts ≡ length offsets
    → IsPermutation (places_in 0 xs) turns → found ≡ flat_map (placed_at starts offsets) turns → IsPermutation (all_placed_from starts offsets) found
in_turn xs starts offsets turns found as_many same each is =
    let f = placed_at starts offsets in
    let own : flat_map f (places_in 0 starts) ≡ all_placed_from starts offsets = in_order f 0 starts offsets same (λ k j at low. ap f (omega (arith, at))) in
    let moved : IsPermutation (places_in 0 starts) turns = subst (λ (l : List ℕ). IsPermutation l turns) (same_places 0 xs starts as_many) each in
    subst (λ (l : List (ℕ × ℕ)). IsPermutation l found) own (subst (λ (l : List (ℕ × ℕ)). IsPermutation (flat_map f (places_in 0 starts)) l) (sym is) (joined_permuted f (places_in 0 starts) turns moved))

-- the last place of each location stays the same
pub last_moved : (all found ls : List (ℕ × ℕ)) → IsPermutation all found → LastPlaces true found ls → LastPlaces true all ls
last_moved all found ls moved last = (last.0, record { moved = IsPermutation-trans all found last.0 moved last.1.moved; sorted = last.1.sorted }, last.2)
