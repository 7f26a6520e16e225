-- One turn of a loop over a list: what was taken, the next element, and what is left.
use Rattle.std.proofs.Common.{◌≡◌, ℕ, zero, suc, ◌+◌, ◌<◌, List, [], ◌∷◌, ◌++◌, map, take, length, refl, ap, ◌∙◌, subst, arith}
use Rattle.std.specs.Prelude.{slice_index_or}

-- the element at i, and all that stand behind it
pub split_at : {A B : Type 0} (f : A → B) (xs : List A) (i : ℕ) (d : A) → i < length xs → (rest : List B) × (map f xs ≡ map f (take i xs) ++ f (slice_index_or xs i d) ∷ rest)
split_at f [] i d h = absurd (omega arith)
split_at f (x ∷ xs) zero d h = (map f xs, refl)
split_at {A} {B} f (x ∷ xs) (suc i) d h =
    let q : (rest : List B) × (map f xs ≡ map f (take i xs) ++ f (slice_index_or xs i d) ∷ rest) = split_at f xs i d (omega arith) in
    (q.0, ap (λ (l : List B). f x ∷ l) q.1)

more_at : {A : Type 0} (xs : List A) (i : ℕ) (d : A) → i < length xs → take (suc i) xs ≡ take i xs ++ slice_index_or xs i d ∷ []
more_at [] i d h = absurd (omega arith)
more_at (x ∷ xs) zero d h = refl
more_at {A} (x ∷ xs) (suc i) d h = ap (λ (l : List A). x ∷ l) (more_at xs i d (omega arith))

pub one_more : {A : Type 0} (xs : List A) (i : ℕ) (d : A) → i < length xs → take (i + 1) xs ≡ take i xs ++ slice_index_or xs i d ∷ []
one_more xs i d h =
    let next : suc i ≡ i + 1 = omega arith in
    subst (λ n. take n xs ≡ take i xs ++ slice_index_or xs i d ∷ []) next (more_at xs i d h)

pub map_snoc : {A B : Type 0} (f : A → B) (xs : List A) (x : A) → map f (xs ++ x ∷ []) ≡ map f xs ++ f x ∷ []
map_snoc f [] x = refl
map_snoc {A} {B} f (y ∷ xs) x = ap (λ (l : List B). f y ∷ l) (map_snoc f xs x)

-- what is made of the first elements, and of the next one
pub map_more : {A B : Type 0} (f : A → B) (xs : List A) (i : ℕ) (d : A) → i < length xs → map f (take (i + 1) xs) ≡ map f (take i xs) ++ f (slice_index_or xs i d) ∷ []
map_more f xs i d h = ap (map f) (one_more xs i d h) ∙ map_snoc f (take i xs) (slice_index_or xs i d)
