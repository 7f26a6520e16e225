-- Lists that are one: by what stands at each place, by an inverse, by parts.
use Rattle.std.proofs.Common.{◌≡◌, ℕ, suc, Bool, true, false, List, [], ◌∷◌, ◌++◌, map, refl, sym, ap, ap₂, ◌∙◌, arith}
use Rattle.std.specs.Prelude.{All, slice_get, filter, cond}
use Rattle.std.proofs.lemmas.List.Elements.{All-head, All-tail}
use Rattle.std.proofs.lemmas.List.Elements as elements
use Rattle.wasm_forms.proofs.Bind.{some_same, some_not_none}
use Rattle.walrus_groups.proofs.OneGroup.{map_back}

pub got_at : {X : Type 0} (xs ys : List X) → ((i : ℕ) → slice_get xs i ≡ slice_get ys i) → xs ≡ ys
got_at [] [] h = refl
got_at [] (y ∷ ys) h = absurd (some_not_none y (sym (h 0)))
got_at (x ∷ xs) [] h = absurd (some_not_none x (h 0))
got_at (x ∷ xs) (y ∷ ys) h = ap₂ ◌∷◌ (some_same x y (h 0)) (got_at xs ys (λ i. h (suc i)))

-- one list gives these look-ups
pub got_same : {X : Type 0} (xs ys : List X) → slice_get xs ≡ slice_get ys → xs ≡ ys
got_same xs ys e = got_at xs ys (λ i. ap (λ f. f i) e)

-- lists of which f makes the same, where g takes f back
pub one_map : {A B : Type 0} (f : A → B) (g : B → A) (P : A → Type 0) → ((x : A) → P x → g (f x) ≡ x) → (xs ys : List A) → All P xs → All P ys → map f xs ≡ map f ys → xs ≡ ys
one_map f g P back xs ys h k e = sym (map_back f g P back xs h) ∙ ap (map g) e ∙ map_back f g P back ys k

-- the same by a test of any two
pub told_map : {A B : Type 0} (f : A → B) (P : A → Type 0) → ((x y : A) → P x → P y → f x ≡ f y → x ≡ y) → (xs ys : List A) → All P xs → All P ys → map f xs ≡ map f ys → xs ≡ ys
told_map f P tell [] [] h k e = refl
told_map f P tell [] (y ∷ ys) h k e = absurd cc
told_map f P tell (x ∷ xs) [] h k e = absurd cc
told_map f P tell (x ∷ xs) (y ∷ ys) h k e =
    let head : f x ≡ f y = cc in
    let tail : map f xs ≡ map f ys = cc in
    ap₂ ◌∷◌ (tell x y (All-head P x xs h) (All-head P y ys k) head) (told_map f P tell xs ys (All-tail P x xs h) (All-tail P y ys k) tail)

-- two parts, told by a test that all of the first pass and none of the second
pub one_split : {A : Type 0} (test : A → Bool) → (xs ys cs ds : List A) → All (λ x. test x ≡ true) xs → All (λ x. test x ≡ true) ys → All (λ x. test x ≡ false) cs → All (λ x. test x ≡ false) ds → xs ++ cs ≡ ys ++ ds → (xs ≡ ys) × (cs ≡ ds)
one_split test [] [] cs ds h k f g e = (refl, e)
one_split test [] (y ∷ ys) [] ds h k f g e = absurd cc
one_split test [] (y ∷ ys) (c ∷ cs) ds h k f g e =
    let head : c ≡ y = cc in
    let yes = All-head (λ x. test x ≡ true) y ys k in
    let none = All-head (λ x. test x ≡ false) c cs f in
    absurd cc
one_split test (x ∷ xs) [] cs [] h k f g e = absurd cc
one_split test (x ∷ xs) [] cs (d ∷ ds) h k f g e =
    let head : x ≡ d = cc in
    let yes = All-head (λ x. test x ≡ true) x xs h in
    let none = All-head (λ x. test x ≡ false) d ds g in
    absurd cc
one_split test (x ∷ xs) (y ∷ ys) cs ds h k f g e =
    let first : x ≡ y = cc in
    let rest : xs ++ cs ≡ ys ++ ds = cc in
    let parts = one_split test xs ys cs ds (All-tail (λ x. test x ≡ true) x xs h) (All-tail (λ x. test x ≡ true) y ys k) f g rest in
    (ap₂ ◌∷◌ first parts.0, parts.1)

pub filter_all : {A : Type 0} (test : A → Bool) (xs : List A) → All (λ x. test x ≡ true) xs → filter test xs ≡ xs
filter_all test [] h = refl
filter_all test (x ∷ xs) h = ap (λ b. cond b (x ∷ filter test xs) (filter test xs)) (All-head (λ x. test x ≡ true) x xs h) ∙ ap (λ l. x ∷ l) (filter_all test xs (All-tail (λ x. test x ≡ true) x xs h))

-- parts of what all keep

pub All-front : {A : Type 0} (P : A → Type 0) (xs ys : List A) → All P (xs ++ ys) → All P xs
All-front P [] ys h = λ k d low. absurd (omega (arith, low))
All-front P (x ∷ xs) ys h =
    let tail = All-front P xs ys (All-tail P x (xs ++ ys) h) in
    elements.All-cons P x xs (All-head P x (xs ++ ys) h) tail

pub All-back : {A : Type 0} (P : A → Type 0) (xs ys : List A) → All P (xs ++ ys) → All P ys
All-back P [] ys h = h
All-back P (x ∷ xs) ys h = All-back P xs ys (All-tail P x (xs ++ ys) h)
