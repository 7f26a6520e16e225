-- What stands where in a list, and where it is found.
use Rattle.std.proofs.Common.{◌≡◌, ℕ, zero, suc, ◌<◌, Bool, true, false, List, [], ◌∷◌, length, get_or, refl, ap, ◌∙◌, subst, arith, Some, None}
use Rattle.std.specs.Prelude.{nat_eq, Option, IsSome, Contains, option_map, if◌then◌else◌, slice_get, ◌==◌, unwrap_or}
use Rattle.std.specs.List.{IsDistinct, AllByRecursion, AllZip}
use Rattle.std.proofs.lemmas.Bool.{eqb-false, true_from_ne_false as true_by}
use Rattle.walrus_base.specs.Shape.{place_in}
use Rattle.std.proofs.lemmas.Option.{slice_get-get_or as got_at}

pub some_inj : {A : Type 0} (x y : A) → Some x ≡ Some y → x ≡ y
some_inj x y e = ap (λ o. unwrap_or o x) e

pub none_there : false ≡ true → ⊥
none_there h = cc

pub some_of : {A : Type 0} (o : Option A) → IsSome o → (x : A) × (o ≡ Some x)
some_of (Some x) h = (x, refl)
some_of None h = absurd (none_there h)

pub was_some : {A B : Type 0} (f : A → B) (o : Option A) → IsSome (option_map f o) → IsSome o
was_some f (Some a) h = refl
was_some f None h = absurd (none_there h)

pub self_eq : (t : ℕ) → (t == t) ≡ true
self_eq t = true_by (t == t) (λ e. eqb-false t t e refl)

all_at : (P : ℕ → Type 0) (xs : List ℕ) (k t : ℕ) → AllByRecursion P xs → slice_get xs k ≡ Some t → P t
all_at P [] k t h e = absurd (cc)
all_at P (x ∷ xs) zero t h e = let p : x ≡ t = cc in subst P p h.0
all_at P (x ∷ xs) (suc k) t h e = all_at P xs k t h.1 e

pub stands_at : (xs : List ℕ) (t k : ℕ) → IsDistinct nat_eq xs → slice_get xs k ≡ Some t → place_in xs t ≡ Some k
unfolding IsDistinct
stands_at [] t k h e = absurd (cc)
stands_at (x ∷ xs) t zero h e =
    let p : x ≡ t = cc in
    subst (λ u. place_in (x ∷ xs) u ≡ Some 0) p (ap (λ (b : Bool). if b then Some 0 else option_map suc (place_in xs x)) (self_eq x))
stands_at (x ∷ xs) t (suc k) h e =
    ap (λ (b : Bool). if b then Some 0 else option_map suc (place_in xs t)) (all_at (λ y. nat_eq x y ≡ false) xs k t h.0 e)
    ∙ ap (option_map suc) (stands_at xs t k h.1 e)

pub got_where : {A : Type 0} (xs : List A) (x : A) (c : Contains xs x) → slice_get xs c.0 ≡ Some x
got_where {A} xs x c = got_at xs c.0 x c.1 ∙ ap (λ (y : A). Some y) c.2

pub got_in : {A : Type 0} (xs : List A) (i : ℕ) (x : A) → slice_get xs i ≡ Some x → (i < length xs) × ((d : A) → get_or xs i d ≡ x)
got_in [] i x e = cc
got_in (y ∷ xs) zero x e = (omega arith, λ d. let p : y ≡ x = cc in p)
got_in (y ∷ xs) (suc i) x e = let r = got_in xs i x e in let lt : i < length xs = r.0 in (omega (arith, lt), r.1)

pub zip_right : {A B : Type 0} (R : A → B → Type 0) (xs : List A) (ys : List B) (k : ℕ) (x : A) → AllZip R xs ys → slice_get xs k ≡ Some x → (y : B) × (slice_get ys k ≡ Some y) × R x y
zip_right R [] [] k x h e = cc
zip_right R [] (y ∷ ys) k x h e = absurd h
zip_right R (z ∷ xs) [] k x h e = absurd h
zip_right R (z ∷ xs) (y ∷ ys) zero x h e = (y, refl, subst (λ w. R w y) (some_inj z x e) h.0)
zip_right R (z ∷ xs) (y ∷ ys) (suc k) x h e = zip_right R xs ys k x h.1 e

pub zip_left : {A B : Type 0} (R : A → B → Type 0) (xs : List A) (ys : List B) (k : ℕ) (y : B) → AllZip R xs ys → slice_get ys k ≡ Some y → (x : A) × (slice_get xs k ≡ Some x) × R x y
zip_left R [] [] k y h e = cc
zip_left R [] (z ∷ ys) k y h e = absurd h
zip_left R (x ∷ xs) [] k y h e = absurd h
zip_left R (x ∷ xs) (z ∷ ys) zero y h e = (x, refl, subst (λ w. R x w) (some_inj z y e) h.0)
zip_left R (x ∷ xs) (z ∷ ys) (suc k) y h e = zip_left R xs ys k y h.1 e
