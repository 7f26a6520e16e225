-- Lists and what is found in them.
use Rattle.std.proofs.Common.{inl, inr, ◌≡◌, ◌⊎◌, ℕ, zero, suc, ◌+◌, ◌<◌, ◌≤◌, Bool, List, [], ◌∷◌, ◌++◌, length, map, get_or, refl, sym, ap, ap₂, subst, ◌∙◌, arith, false, true}
use Rattle.std.specs.Prelude.{Option, Some, None, IsSome, AllPairs, slice_get, zip, option_map, option_and_then, nat_eq, if◌then◌else◌}
use Rattle.std.specs.List.{range_with_len}
use Rattle.std.proofs.lemmas.Bool.{ne_eqb}
use Rattle.std.proofs.lemmas.List.{get_or-map, length-map}
use Rattle.walrus_base.specs.Shape.{place_in}
use Rattle.walrus_base.proofs.Standing.{some_inj, self_eq}

-- ---- options

pub still_some : {A B : Type 0} (f : A → B) (o : Option A) → IsSome o → IsSome (option_map f o)
still_some f (Some x) h = refl
still_some f None h = h

pub mapped_some : {A B : Type 0} (f : A → B) (o : Option A) (y : B) → option_map f o ≡ Some y → (x : A) × (o ≡ Some x) × (y ≡ f x)
mapped_some f (Some x) y e = (x, refl, (let p : f x ≡ y = cc in sym p))
mapped_some f None y e = cc

pub then_some : {A B : Type 0} (k : A → Option B) (o : Option A) (y : B) → option_and_then k o ≡ Some y → (x : A) × (o ≡ Some x) × (k x ≡ Some y)
then_some k (Some x) y e = (x, refl, e)
then_some k None y e = absurd (cc)

-- ---- what stands at a place

pub got_map : {A B : Type 0} (f : A → B) (xs : List A) (i : ℕ) → slice_get (map f xs) i ≡ option_map f (slice_get xs i)
got_map f [] i = refl
got_map f (x ∷ xs) zero = refl
got_map f (x ∷ xs) (suc i) = got_map f xs i

pub got_both : {A B : Type 0} (xs : List A) (ys : List B) (k : ℕ) (x : A) (y : B) → slice_get xs k ≡ Some x → slice_get ys k ≡ Some y → slice_get (zip xs ys) k ≡ Some (x, y)
got_both [] ys k x y e h = absurd (cc)
got_both (a ∷ xs) [] k x y e h = absurd (cc)
got_both (a ∷ xs) (b ∷ ys) zero x y e h = ap₂ (λ u v. Some (u, v)) (some_inj a x e) (some_inj b y h)
got_both (a ∷ xs) (b ∷ ys) (suc k) x y e h = got_both xs ys k x y e h

pub there : {A : Type 0} (xs : List A) (i : ℕ) → i < length xs → IsSome (slice_get xs i)
there [] i lt = absurd (omega arith)
there (x ∷ xs) zero lt = refl
there (x ∷ xs) (suc i) lt = there xs i (omega arith)

pub pairs_map : {A B : Type 0} (R : B → B → Type 0) (f : A → B) (xs : List A) → AllPairs (λ a b. R (f a) (f b)) xs → AllPairs R (map f xs)
pairs_map R f [] h = λ i j d less within. let w : j < 0 = within in absurd (omega (arith, w))
pairs_map R f (x ∷ xs) h = λ i j d less within.
    let w : j < length (x ∷ xs) = omega (arith, within, length-map (x ∷ xs) f) in
    let v : i < length (x ∷ xs) = omega (arith, w, less) in
    let s : R (f (get_or (x ∷ xs) i x)) (f (get_or (x ∷ xs) j x)) = h i j x less w in
    subst (λ z. R z (get_or (map f (x ∷ xs)) j d)) (sym (get_or-map f (x ∷ xs) i x d v)) (subst (λ z. R (f (get_or (x ∷ xs) i x)) z) (sym (get_or-map f (x ∷ xs) j x d w)) s)

pub heads : {A : Type 0} (x y : A) (xs ys : List A) → x ∷ xs ≡ y ∷ ys → (x ≡ y) × (xs ≡ ys)
heads x y xs ys e = (let p : x ≡ y = cc in p, let q : xs ≡ ys = cc in q)

pub mapped_append : {A B : Type 0} (f : A → B) (xs ys : List A) → map f (xs ++ ys) ≡ map f xs ++ map f ys
mapped_append f [] ys = refl
mapped_append f (x ∷ xs) ys = ap (λ l. f x ∷ l) (mapped_append f xs ys)

pub map_after : {A B C : Type 0} (f : A → B) (g : B → C) (xs : List A) → map (λ x. g (f x)) xs ≡ map g (map f xs)
map_after f g [] = refl
map_after f g (x ∷ xs) = ap (λ l. g (f x) ∷ l) (map_after f g xs)

pub as_long : {A B C : Type 0} (f : A → C) (g : B → C) (xs : List A) (ys : List B) → map f xs ≡ map g ys → length xs ≡ length ys
as_long f g xs ys e = sym (length-map xs f) ∙ ap length e ∙ length-map ys g

-- ---- places in ranges

pub range_within : (a n k x : ℕ) → slice_get (range_with_len a n) k ≡ Some x → k < n
range_within a zero k x e = cc
range_within a (suc n) zero x e = omega arith
range_within a (suc n) (suc k) x e = let lt : k < n = range_within (a + 1) n k x e in omega (arith, lt)

pub place_range : (a n k m : ℕ) → m ≡ a + k → k < n → place_in (range_with_len a n) m ≡ Some k
place_range a zero k m e lt = absurd (omega (arith, lt))
place_range a (suc n) zero m e lt =
    let p : a ≡ m = omega (arith, e) in
    subst (λ (u : ℕ). place_in (range_with_len a (suc n)) u ≡ Some 0) p (ap (λ (b : Bool). if b then Some 0 else option_map suc (place_in (range_with_len (a + 1) n) a)) (self_eq a))
place_range a (suc n) (suc k) m e lt =
    let differs : nat_eq a m ≡ false = ne_eqb a m (λ h. omega (arith, e, h)) in
    ap (λ (b : Bool). if b then Some 0 else option_map suc (place_in (range_with_len (a + 1) n) m)) differs
    ∙ ap (option_map suc) (place_range (a + 1) n k m (omega (arith, e)) (omega (arith, lt)))

pub place_past : (a n m : ℕ) → a + n ≤ m → place_in (range_with_len a n) m ≡ None
place_past a zero m le = refl
place_past a (suc n) m le =
    let differs : nat_eq a m ≡ false = ne_eqb a m (λ h. omega (arith, le, h)) in
    ap (λ (b : Bool). if b then Some 0 else option_map suc (place_in (range_with_len (a + 1) n) m)) differs
    ∙ ap (option_map suc) (place_past (a + 1) n m (omega (arith, le)))

-- ---- places in two lists, one behind the other

-- what has a place in both together has it in the first, or stands behind that
abbrev pub Stands : List ℕ → ℕ → ℕ → Type 0
Stands xs x k = ((place_in xs x ≡ Some k) × (k < length xs)) ⊎ ((place_in xs x ≡ None) × (length xs ≤ k))

stands_later : (y : ℕ) (xs : List ℕ) (x k : ℕ) → nat_eq y x ≡ false → Stands xs x k → Stands (y ∷ xs) x (suc k)
stands_later y xs x k d (inl s) = inl (ap (λ (b : Bool). if b then Some 0 else option_map suc (place_in xs x)) d ∙ ap (option_map suc) s.0, omega (arith, s.1))
stands_later y xs x k d (inr s) = inr (ap (λ (b : Bool). if b then Some 0 else option_map suc (place_in xs x)) d ∙ ap (option_map suc) s.0, omega (arith, s.1))

stands_by : (y : ℕ) (xs ys : List ℕ) (x k : ℕ) (b : Bool) → nat_eq y x ≡ b → (if b then Some 0 else option_map suc (place_in (xs ++ ys) x)) ≡ Some k → ((j : ℕ) → place_in (xs ++ ys) x ≡ Some j → Stands xs x j) → Stands (y ∷ xs) x k
stands_by y xs ys x k true d e h =
    let p : 0 ≡ k = some_inj 0 k e in
    inl (ap (λ (b : Bool). if b then Some 0 else option_map suc (place_in xs x)) d ∙ e, omega (arith, p))
stands_by y xs ys x k false d e h =
    let m = mapped_some suc (place_in (xs ++ ys) x) k e in
    subst (λ (n : ℕ). Stands (y ∷ xs) x n) (sym m.2) (stands_later y xs x m.0 d (h m.0 m.1))

pub where_placed : (xs ys : List ℕ) (x k : ℕ) → place_in (xs ++ ys) x ≡ Some k → Stands xs x k
where_placed [] ys x k e = inr (refl, omega arith)
where_placed (y ∷ xs) ys x k e = stands_by y xs ys x k (nat_eq y x) refl e (where_placed xs ys x)
