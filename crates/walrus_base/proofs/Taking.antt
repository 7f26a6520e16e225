-- What each step of reading adds.
use Rattle.std.proofs.Common.{◌≡◌, ℕ, zero, suc, ◌+◌, ◌<◌, ◌≤◌, List, [], ◌∷◌, ◌++◌, length, map, get_or, refl, sym, ap, ap₂, subst, ◌∙◌, arith}
use Rattle.std.specs.Prelude.{Some, None, slice_get, All}
use Rattle.std.specs.List.{range_with_len}
use Rattle.std.proofs.lemmas.List.{map-append, get_or-map, length-map}
use Rattle.walrus_base.proofs.Ranges.{range-more}

-- ---- numbers in a row

pub get_range : (a n i : ℕ) → i < n → slice_get (range_with_len a n) i ≡ Some (a + i)
get_range a zero i lt = absurd (omega arith)
get_range a (suc n) zero lt = let e : a ≡ a + 0 = omega arith in ap Some e
get_range a (suc n) (suc i) lt = let e : a + 1 + i ≡ a + suc i = omega arith in get_range (a + 1) n i (omega arith) ∙ ap Some e

pub get_own : (n i : ℕ) → i < n → slice_get (range_with_len 0 n) i ≡ Some i
get_own n i lt = let e : 0 + i ≡ i = omega arith in get_range 0 n i lt ∙ ap Some e

pub get_past : (a n i : ℕ) → n ≤ i → slice_get (range_with_len a n) i ≡ None
get_past a zero i le = refl
get_past a (suc n) zero le = absurd (omega arith)
get_past a (suc n) (suc i) le = get_past (a + 1) n i (omega arith)

-- ---- more of these

pub mapped_all : {A B : Type 0} (P : B → Type 0) (f : A → B) (xs : List A) (i : ℕ) (d : A) → All P (map f xs) → i < length xs → P (f (get_or xs i d))
mapped_all P f xs i d h lt = subst P (get_or-map f xs i d (f d) lt) (h i (f d) (omega (arith, length-map xs f)))

pub placed_more : {X : Type 0} (g : X → ℕ) (a n : ℕ) (done more : List X) (y : X) → map g done ≡ range_with_len a n → more ≡ done ++ y ∷ [] → g y ≡ a + n → map g more ≡ range_with_len a (n + 1)
placed_more g a n done more y is push at = ap (map g) push ∙ map-append g done (y ∷ []) ∙ ap₂ (λ l k. l ++ k ∷ []) is at ∙ sym (range-more a n)

pub some_same : (a b : ℕ) → Some a ≡ Some b → a ≡ b
some_same a b e = cc
