-- Lists whose items keep a fact, and two lists that look the same.
use Rattle.std.proofs.Common.{◌≡◌, ℕ, zero, suc, ◌<◌, List, [], ◌∷◌, ◌++◌, length, map, refl, sym, ap, ap₂, ◌∙◌, arith}
use Rattle.std.specs.Prelude.{Some, Contains, slice_get, option_map, flat_map}
use Rattle.std.specs.List.{AllByRecursion}
use Rattle.std.proofs.lemmas.List.{map-append}
use Rattle.walrus_bodies.proofs.LawNamed.{each_append}
use Rattle.walrus_base.proofs.Lists.{Contains-head, Contains-tail}
use Rattle.walrus_base.proofs.Lookups.{heads}

-- ---- what holds of each

pub all_in : {A : Type 0} (P : A → Type 0) (xs : List A) → ((x : A) → Contains xs x → P x) → AllByRecursion P xs
all_in P [] h = tt
all_in P (x ∷ xs) h = (h x (Contains-head x xs), all_in P xs (λ y c. h y (Contains-tail x y xs c)))

pub all_parts : {A : Type 0} (P : A → Type 0) (xs ys : List A) → AllByRecursion P (xs ++ ys) → AllByRecursion P xs × AllByRecursion P ys
all_parts P [] ys a = (tt, a)
all_parts P (x ∷ xs) ys a = let r = all_parts P xs ys a.1 in ((a.0, r.0), r.1)

pub all_mapped : {A B : Type 0} (P : B → Type 0) (f : A → B) (xs : List A) → AllByRecursion (λ x. P (f x)) xs → AllByRecursion P (map f xs)
all_mapped P f [] a = tt
all_mapped P f (x ∷ xs) a = (a.0, all_mapped P f xs a.1)

pub all_unmapped : {A B : Type 0} (P : B → Type 0) (f : A → B) (xs : List A) → AllByRecursion P (map f xs) → AllByRecursion (λ x. P (f x)) xs
all_unmapped P f [] a = tt
all_unmapped P f (x ∷ xs) a = (a.0, all_unmapped P f xs a.1)

-- ---- lists of what each gives

pub all_flat : {A B C : Type 0} (P : A → Type 0) (Q : C → Type 0) (f : A → B) (h : B → List C) → ((x : A) → P x → AllByRecursion Q (h (f x))) → (xs : List A) → AllByRecursion P xs → AllByRecursion Q (flat_map h (map f xs))
all_flat P Q f h one [] a = tt
all_flat P Q f h one (x ∷ xs) a = each_append Q (h (f x)) (flat_map h (map f xs)) (one x a.0) (all_flat P Q f h one xs a.1)

pub all_unflat : {A B C : Type 0} (P : A → Type 0) (Q : C → Type 0) (f : A → B) (h : B → List C) → ((x : A) → AllByRecursion Q (h (f x)) → P x) → (xs : List A) → AllByRecursion Q (flat_map h (map f xs)) → AllByRecursion P xs
all_unflat P Q f h one [] a = tt
all_unflat P Q f h one (x ∷ xs) a = let p = all_parts Q (h (f x)) (flat_map h (map f xs)) a in (one x p.0, all_unflat P Q f h one xs p.1)

pub all_itself : {A B : Type 0} (Q : B → Type 0) (h : A → List B) (xs : List A) → AllByRecursion (λ x. AllByRecursion Q (h x)) xs → AllByRecursion Q (flat_map h xs)
all_itself Q h [] a = tt
all_itself Q h (x ∷ xs) a = each_append Q (h x) (flat_map h xs) a.0 (all_itself Q h xs a.1)

pub all_apart : {A B : Type 0} (Q : B → Type 0) (h : A → List B) (xs : List A) → AllByRecursion Q (flat_map h xs) → AllByRecursion (λ x. AllByRecursion Q (h x)) xs
all_apart Q h [] a = tt
all_apart Q h (x ∷ xs) a = let p = all_parts Q (h x) (flat_map h xs) a in (p.0, all_apart Q h xs p.1)

-- ---- places

-- what stands in front
pub got_front : {A : Type 0} (P : A → Type 0) (xs ys : List A) (k : ℕ) → AllByRecursion P xs → k < length xs → (x : A) × (slice_get (xs ++ ys) k ≡ Some x) × P x
got_front P [] ys k h lt = absurd (omega (arith, lt))
got_front P (x ∷ xs) ys zero h lt = (x, refl, h.0)
got_front P (x ∷ xs) ys (suc k) h lt = got_front P xs ys k h.1 (omega (arith, lt))

pub all_two : {A : Type 0} (P Q : A → Type 0) (xs : List A) → AllByRecursion P xs → AllByRecursion Q xs → AllByRecursion (λ x. P x × Q x) xs
all_two P Q [] a b = tt
all_two P Q (x ∷ xs) a b = ((a.0, b.0), all_two P Q xs a.1 b.1)

-- ---- two lists that look the same, each in its way

pub looked : {X A B : Type 0} (seen : X → B) (conv : A → B) (P : A → Type 0) (Q : X → Type 0) → ((x : X) (a : A) → seen x ≡ conv a → P a → Q x) → (xs : List X) (ys : List A) → map seen xs ≡ map conv ys → AllByRecursion P ys → AllByRecursion Q xs
looked seen conv P Q f [] ys e h = tt
looked seen conv P Q f (x ∷ xs) [] e h = absurd (cc)
looked seen conv P Q f (x ∷ xs) (y ∷ ys) e h =
    let p = heads (seen x) (conv y) (map seen xs) (map conv ys) e in
    (f x y p.0 h.0, looked seen conv P Q f xs ys p.1 h.1)

pub looked_at : {X A B : Type 0} (seen : X → B) (conv : A → B) (xs : List X) (ys : List A) → map seen xs ≡ map conv ys → (k : ℕ) → option_map seen (slice_get xs k) ≡ option_map conv (slice_get ys k)
looked_at seen conv [] [] e k = refl
looked_at seen conv [] (y ∷ ys) e k = absurd (cc)
looked_at seen conv (x ∷ xs) [] e k = absurd (cc)
looked_at seen conv (x ∷ xs) (y ∷ ys) e zero = ap Some (heads (seen x) (conv y) (map seen xs) (map conv ys) e).0
looked_at seen conv (x ∷ xs) (y ∷ ys) e (suc k) = looked_at seen conv xs ys (heads (seen x) (conv y) (map seen xs) (map conv ys) e).1 k

pub looked_both : {X A B : Type 0} (seen : X → B) (conv : A → B) (xs us : List X) (ys vs : List A) → map seen xs ≡ map conv ys → map seen us ≡ map conv vs → map seen (xs ++ us) ≡ map conv (ys ++ vs)
looked_both seen conv xs us ys vs p q = map-append seen xs us ∙ ap₂ ◌++◌ p q ∙ sym (map-append conv ys vs)
