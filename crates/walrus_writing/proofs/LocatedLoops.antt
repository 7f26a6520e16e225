-- What is done and what is left, step by step, where places are put in order.
use Rattle.std.proofs.Common.{◌≡◌, ℕ, zero, suc, ◌+◌, ◌<◌, ◌≤◌, Bool, true, false, cond, List, [], ◌∷◌, ◌++◌, drop, length, map, refl, sym, subst, ap, ap₂, ◌∙◌, arith, append_assoc, append-nil}
use Rattle.std.specs.Prelude.{slice_index_or, zip}
use Rattle.std.specs.List.{AllZip}
use Rattle.std.proofs.lemmas.List.{drop_all, drop_more}
use Rattle.walrus_writing.specs.Located.{first_if_last, is_first_last, is_last_of, lasts, placed_from, placed_one}

-- part of what was left is done
pub turn : {C : Type 0} (done new part left rest all : List C) → left ≡ part ++ rest → new ≡ done ++ part → done ++ left ≡ all → new ++ rest ≡ all
turn done new part left rest all split is so = ap (λ l. l ++ rest) is ∙ append_assoc done part rest ∙ ap (λ l. done ++ l) (sym split) ∙ so

-- nothing is left
pub ends : {C : Type 0} (done left all : List C) → left ≡ [] → done ++ left ≡ all → done ≡ all
ends done left all none so = sym (append-nil done) ∙ ap (λ l. done ++ l) (sym none) ∙ so

-- ---- functions with their ranges

pub pairs_step : {A B C D : Type 0} (f : A → C) (g : B → D) (ids : List A) (ranges : List B) (i j : ℕ) (d : A) (e : B) → i < length ids → length ids ≡ length ranges → j ≡ i
    → zip (map f (drop i ids)) (map g (drop i ranges)) ≡ ((f (slice_index_or ids i d), g (slice_index_or ranges j e)) ∷ []) ++ zip (map f (drop (i + 1) ids)) (map g (drop (i + 1) ranges))
pairs_step {A} {B} f g ids ranges i j d e low as_many same =
    ap₂ (λ (a : List A) (b : List B). zip (map f a) (map g b)) (drop_more ids i d low) (drop_more ranges i e (omega (arith, low, as_many)))
    ∙ ap (λ (n : ℕ). ((f (slice_index_or ids i d), g (slice_index_or ranges n e)) ∷ []) ++ zip (map f (drop (i + 1) ids)) (map g (drop (i + 1) ranges))) (sym same)

pub pairs_end : {A B C D : Type 0} (f : A → C) (g : B → D) (ids : List A) (ranges : List B) (i : ℕ) → length ids ≤ i → zip (map f (drop i ids)) (map g (drop i ranges)) ≡ []
pairs_end {A} f g ids ranges i past = ap (λ (a : List A). zip (map f a) (map g (drop i ranges))) (drop_all i ids past)

-- what holds of two lists holds at a place of both
pub zip_get : {A B : Type 0} (R : A → B → Type 0) (xs : List A) (ys : List B) → AllZip R xs ys → (i j : ℕ) (d : A) (e : B) → i < length ys → length ys ≡ length xs → j ≡ i → R (slice_index_or xs j d) (slice_index_or ys i e)
zip_get {A} {B} R xs ys h i j d e low as_many same = subst (λ (n : ℕ). R (slice_index_or xs n d) (slice_index_or ys i e)) (sym same) (at xs ys h i low)
  where
    at : (xs : List A) (ys : List B) → AllZip R xs ys → (i : ℕ) → i < length ys → R (slice_index_or xs i d) (slice_index_or ys i e)
    at [] [] h i low = absurd (omega (arith, low))
    at [] (y ∷ ys) h i low = absurd h
    at (x ∷ xs) [] h i low = absurd h
    at (x ∷ xs) (y ∷ ys) h zero low = h.0
    at (x ∷ xs) (y ∷ ys) h (suc i) low = at xs ys h.1 i (omega (arith, low))

-- ---- locations with their places

pub places_step : {A : Type 0} (view : A → ℕ × ℕ) (start : ℕ) (places : List A) (i : ℕ) (d : A) → i < length places
    → placed_from start (map view (drop i places)) ≡ placed_one (view (slice_index_or places i d)).0 (start + (view (slice_index_or places i d)).1) ++ placed_from start (map view (drop (i + 1) places))
places_step {A} view start places i d low = ap (λ (l : List A). placed_from start (map view l)) (drop_more places i d low)

pub places_end : {A : Type 0} (view : A → ℕ × ℕ) (start : ℕ) (places : List A) (i : ℕ) → length places ≤ i → placed_from start (map view (drop i places)) ≡ []
places_end {A} view start places i past = ap (λ (l : List A). placed_from start (map view l)) (drop_all i places past)

-- ---- the last of each location

one_last : (x : ℕ × ℕ) (xs : List (ℕ × ℕ)) (b : Bool) → cond b (x ∷ lasts xs) (lasts xs) ≡ cond b (x ∷ []) [] ++ lasts xs
one_last x xs true = refl
one_last x xs false = refl

first_lasts : (xs rest : List (ℕ × ℕ)) (x : ℕ × ℕ) → xs ≡ x ∷ rest → lasts xs ≡ first_if_last xs ++ lasts rest
first_lasts xs rest x is = ap lasts is ∙ one_last x rest (is_last_of x rest) ∙ ap (λ l. first_if_last l ++ lasts rest) (sym is)

pub lasts_step : (xs : List (ℕ × ℕ)) (i : ℕ) → i < length xs → lasts (drop i xs) ≡ first_if_last (drop i xs) ++ lasts (drop (i + 1) xs)
lasts_step xs i low = let none : ℕ × ℕ = (0, 0) in first_lasts (drop i xs) (drop (i + 1) xs) (slice_index_or xs i none) (drop_more xs i none low)

pub lasts_end : (xs : List (ℕ × ℕ)) (i : ℕ) → length xs ≤ i → lasts (drop i xs) ≡ []
lasts_end xs i past = ap lasts (drop_all i xs past)

-- the last pair of a list is one
pub last_at_end : (xs : List (ℕ × ℕ)) (i : ℕ) → i < length xs → i + 1 ≡ length xs → is_first_last (drop i xs) ≡ true
last_at_end xs i low past =
    let none : ℕ × ℕ = (0, 0) in
    ap is_first_last (drop_more xs i none low) ∙ ap (is_last_of (slice_index_or xs i none)) (drop_all (i + 1) xs (omega (arith, past)))
