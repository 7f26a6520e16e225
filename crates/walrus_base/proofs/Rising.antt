-- Numbers that differ can be put in rising order.
use Rattle.std.proofs.Common.{inl, inr, ◌≡◌, ◌⊎◌, ℕ, suc, ◌<◌, ◌≤◌, Bool, true, false, List, [], ◌∷◌, length, refl, ap, ◌∙◌, arith, leb}
use Rattle.std.specs.Prelude.{◌≢◌, All, AllPairs, nat_eq, if◌then◌else◌}
use Rattle.std.specs.List.{AllByRecursion, IsDistinct}
use Rattle.std.proofs.lemmas.Bool.{eqb-false}
use Rattle.std.proofs.lemmas.Bool.Decides.{leb_tells}
use Rattle.std.proofs.lemmas.List.Elements.{All-from_recursion, recursion_from_All}
use Rattle.std.proofs.lemmas.List.Kept.{AllPairs-cons}

abbrev put : ℕ → List ℕ → List ℕ
put x [] = x ∷ []
put x (y ∷ ys) = if leb x y then x ∷ y ∷ ys else y ∷ put x ys

abbrev sorted : List ℕ → List ℕ
sorted [] = []
sorted (x ∷ xs) = put x (sorted xs)

abbrev pub Above : ℕ → List ℕ → Type 0
Above x ys = AllByRecursion (λ (y : ℕ). x < y) ys

abbrev pub Rises : List ℕ → Type 0
Rises [] = Unit {0}
Rises (x ∷ xs) = Above x xs × Rises xs

-- ---- one number

long_by : (x y : ℕ) (ys zs : List ℕ) (b : Bool) → length zs ≡ suc (length ys) → length (if b then x ∷ y ∷ ys else y ∷ zs) ≡ suc (suc (length ys))
long_by x y ys zs true e = refl
long_by x y ys zs false e = ap suc e

put_long : (x : ℕ) (ys : List ℕ) → length (put x ys) ≡ suc (length ys)
put_long x [] = refl
put_long x (y ∷ ys) = long_by x y ys (put x ys) (leb x y) (put_long x ys)

all_by : (P : ℕ → Type 0) (x y : ℕ) (ys zs : List ℕ) (b : Bool) → P x → AllByRecursion P (y ∷ ys) → AllByRecursion P zs → AllByRecursion P (if b then x ∷ y ∷ ys else y ∷ zs)
all_by P x y ys zs true p h more = (p, h)
all_by P x y ys zs false p h more = (h.0, more)

put_all : (P : ℕ → Type 0) (x : ℕ) (ys : List ℕ) → P x → AllByRecursion P ys → AllByRecursion P (put x ys)
put_all P x [] p h = (p, tt)
put_all P x (y ∷ ys) p h = all_by P x y ys (put x ys) (leb x y) p h (put_all P x ys p h.1)

above_more : (x y : ℕ) (ys : List ℕ) → x < y → Above y ys → Above x ys
above_more x y [] less h = tt
above_more x y (z ∷ ys) less h = ((let lt : y < z = h.0 in omega (arith, less, lt)), above_more x y ys less h.1)

rises_by : (x y : ℕ) (ys zs : List ℕ) (b : Bool) → ((b ≡ true) × (x ≤ y)) ⊎ ((b ≡ false) × (y < x)) → x ≢ y → Above y ys → Rises ys → (y < x → Above y zs) → Rises zs → Rises (if b then x ∷ y ∷ ys else y ∷ zs)
rises_by x y ys zs true (inl le) other above h more rest = let less : x < y = (let most : x ≤ y = le.1 in omega (arith, most, other)) in ((less, above_more x y ys less above), (above, h))
rises_by x y ys zs true (inr lt) other above h more rest = absurd (cc)
rises_by x y ys zs false (inl le) other above h more rest = absurd (cc)
rises_by x y ys zs false (inr lt) other above h more rest = (more lt.1, rest)

put_rises : (x : ℕ) (ys : List ℕ) → AllByRecursion (λ y. nat_eq x y ≡ false) ys → Rises ys → Rises (put x ys)
put_rises x [] apart h = (tt, tt)
put_rises x (y ∷ ys) apart h =
    rises_by x y ys (put x ys) (leb x y) (leb_tells x y) (eqb-false x y apart.0) h.0 h.1 (λ lt. put_all (λ (z : ℕ). y < z) x ys lt h.0) (put_rises x ys apart.1 h.1)

-- ---- all of them

sorted_long : (xs : List ℕ) → length (sorted xs) ≡ length xs
sorted_long [] = refl
sorted_long (x ∷ xs) = put_long x (sorted xs) ∙ ap suc (sorted_long xs)

sorted_all : (P : ℕ → Type 0) (xs : List ℕ) → AllByRecursion P xs → AllByRecursion P (sorted xs)
sorted_all P [] h = tt
sorted_all P (x ∷ xs) h = put_all P x (sorted xs) h.0 (sorted_all P xs h.1)

sorted_rises : (xs : List ℕ) → IsDistinct nat_eq xs → Rises (sorted xs)
unfolding IsDistinct
sorted_rises [] h = tt
sorted_rises (x ∷ xs) h = put_rises x (sorted xs) (sorted_all (λ y. nat_eq x y ≡ false) xs h.0) (sorted_rises xs h.1)

pub pairs_of : (xs : List ℕ) → Rises xs → AllPairs (λ i j. i < j) xs
pairs_of [] h = λ i j d less low. absurd (omega (arith, low))
pairs_of (x ∷ xs) h = AllPairs-cons (λ i j. i < j) x xs (All-from_recursion (λ (y : ℕ). x < y) xs h.0) (pairs_of xs h.1)

-- as many, of which all holds that held before
pub rising : (P : ℕ → Type 0) (xs : List ℕ) → IsDistinct nat_eq xs → All P xs → (ys : List ℕ) × AllPairs (λ i j. i < j) ys × All P ys × (length ys ≡ length xs)
rising P xs differ all = (sorted xs, pairs_of (sorted xs) (sorted_rises xs differ), All-from_recursion P (sorted xs) (sorted_all P xs (recursion_from_All P xs all)), sorted_long xs)
