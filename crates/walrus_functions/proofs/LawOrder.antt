-- Declared locals stand in one order, and by one list of declarations.
use Rattle.std.proofs.Common.{◌≡◌, ◌≢◌, ℕ, zero, suc, ◌<◌, ◌≤◌, List, [], ◌∷◌, ◌++◌, length, map, Option, Some, refl, sym, ap, ap₂, ◌∙◌, subst, arith, ◌⊎◌, inl, inr}
use Rattle.std.specs.Prelude.{Contains, AllPairs, flat_map, replicate, slice_index_or}
use Rattle.std.specs.List.{AllByRecursion}
use Rattle.std.proofs.lemmas.List.Elements.{recursion_from_All}
use Rattle.wasm_forms.proofs.Bind.{some_same}
use Rattle.walrus_base.specs.Types.{ValType}
use Rattle.walrus_functions.specs.DeclaredLocals.{TypeGoesBefore, GoesBefore, DeclaredOnce, GroupedOnce}

-- ---- elements

abbrev pub In : ℕ → List ℕ → Type 0
In x [] = ⊥
In x (y ∷ ys) = (y ≡ x) ⊎ In x ys

in_at : (xs : List ℕ) (k x : ℕ) → k < length xs → slice_index_or xs k x ≡ x → In x xs
in_at [] k x low is = absurd (omega (arith, low))
in_at (y ∷ ys) zero x low is = inl is
in_at (y ∷ ys) (suc k) x low is = inr (in_at ys k x (omega (arith, low)) is)

pub contains_in : (xs : List ℕ) (x : ℕ) → Contains xs x → In x xs
contains_in xs x has = in_at xs has.0 x has.1 has.2

pub in_contains : (xs : List ℕ) (x : ℕ) → In x xs → Contains xs x
in_contains [] x is = absurd is
in_contains (y ∷ ys) x (inl is) = let first : 0 < length (y ∷ ys) = omega arith in (0, first, is)
in_contains (y ∷ ys) x (inr is) =
    let later = in_contains ys x is in
    let low : suc later.0 < length (y ∷ ys) = omega (arith, later.1) in
    (suc later.0, low, later.2)

look_up : (P : ℕ → Type 0) (xs : List ℕ) (x : ℕ) → AllByRecursion P xs → In x xs → P x
look_up P [] x all is = absurd is
look_up P (y ∷ ys) x all (inl is) = subst P is all.0
look_up P (y ∷ ys) x all (inr is) = look_up P ys x all.1 is

-- each is before those behind it
abbrev pub Sorted : {X : Type 0} → (X → X → Type 0) → List X → Type 0
Sorted R [] = Unit {0}
Sorted R (x ∷ xs) = AllByRecursion (R x) xs × Sorted R xs

pub sorted_of : {X : Type 0} (R : X → X → Type 0) (xs : List X) → AllPairs R xs → Sorted R xs
sorted_of R [] pairs = tt
sorted_of R (x ∷ xs) pairs = (
  recursion_from_All (R x) xs (λ k d low. pairs 0 (suc k) d (omega arith) (omega (arith, low))),
  sorted_of R xs (λ i j d less low. pairs (suc i) (suc j) d (omega (arith, less)) (omega (arith, low))),
)

behind_head : (y z : ℕ) (ys : List ℕ) → In z (y ∷ ys) → (y ≡ z → ⊥) → In z ys
behind_head y z ys (inl is) apart = absurd (apart is)
behind_head y z ys (inr is) apart = is

-- what is left without one element
TakenOut : ℕ → List ℕ → Type 0
TakenOut x ys = (rest : List ℕ) × ((length ys ≡ suc (length rest)) × ((z : ℕ) → In z ys → (x ≡ z → ⊥) → In z rest))

kept : (x y z : ℕ) (ys rest : List ℕ) → ((z : ℕ) → In z ys → (x ≡ z → ⊥) → In z rest) → In z (y ∷ ys) → (x ≡ z → ⊥) → In z (y ∷ rest)
kept x y z ys rest keeps (inl is) apart = inl is
kept x y z ys rest keeps (inr is) apart = inr (keeps z is apart)

taken_out : (x : ℕ) (ys : List ℕ) → In x ys → TakenOut x ys
unfolding TakenOut
taken_out x [] is = absurd is
taken_out x (y ∷ ys) (inl is) = (ys, (refl, λ z has apart. behind_head y z ys has (λ same. apart (sym is ∙ same))))
taken_out x (y ∷ ys) (inr is) =
    let cut = taken_out x ys is in
    let long : length (y ∷ ys) ≡ suc (length (y ∷ cut.0)) = omega (arith, cut.1.0) in
    (y ∷ cut.0, (long, λ z has apart. kept x y z ys cut.0 cut.1.1 has apart))

module _ (R : ℕ → ℕ → Type 0) (turn : (x y : ℕ) → R x y → R y x → ⊥) where
  heads : (x y : ℕ) (xs ys : List ℕ) → AllByRecursion (R x) xs → AllByRecursion (R y) ys → In x (y ∷ ys) → In y (x ∷ xs) → y ≡ x
  heads x y xs ys r s (inl is) has = is
  heads x y xs ys r s (inr h) (inl is) = sym is
  heads x y xs ys r s (inr h) (inr k) = absurd (turn x y (look_up (R x) xs y r k) (look_up (R y) ys x s h))

  not_head : (x y z : ℕ) (xs : List ℕ) → x ≡ y → AllByRecursion (R x) xs → In z xs → y ≡ z → ⊥
  not_head x y z xs same r has is = let own : R x x = subst (R x) (sym is ∙ sym same) (look_up (R x) xs z r has) in turn x x own own

  one_list : (xs ys : List ℕ) → Sorted R xs → Sorted R ys → ((z : ℕ) → In z xs → In z ys) → ((z : ℕ) → In z ys → In z xs) → ys ≡ xs
  one_list [] [] r s there back = refl
  one_list [] (y ∷ ys) r s there back = absurd (back y (inl refl))
  one_list (x ∷ xs) [] r s there back = absurd (there x (inl refl))
  one_list (x ∷ xs) (y ∷ ys) r s there back =
      let same : y ≡ x = heads x y xs ys r.0 s.0 (there x (inl refl)) (back y (inl refl)) in
      ap₂ ◌∷◌ same (one_list xs ys r.1 s.1
      (λ z has. behind_head y z ys (there z (inr has)) (not_head x y z xs (sym same) r.0 has))
      (λ z has. behind_head x z xs (back z (inr has)) (not_head y x z ys same s.0 has)))

  -- no element twice: no longer than a list with all of them
  pub no_longer : (xs ys : List ℕ) → Sorted R xs → ((z : ℕ) → In z xs → In z ys) → length xs ≤ length ys
  unfolding TakenOut
  no_longer [] ys r there = omega arith
  no_longer (x ∷ xs) ys r there =
      let cut = taken_out x ys (there x (inl refl)) in
      let later = no_longer xs cut.0 r.1 (λ z has. cut.1.1 z (there z (inr has)) (not_head x x z xs refl r.0 has)) in
      omega (arith, later, cut.1.0)

-- ---- the order of declared locals

module _ (slots : List (Option (ValType ℕ))) (used parameters : List ℕ) where
  Types : ValType ℕ → ValType ℕ → Type 0
  Types v w = TypeGoesBefore slots used parameters v w

  type_turn : (v w : ValType ℕ) → Types v w → Types w v → ⊥
  unfolding Types
  type_turn v w (inl h) (inl k) = omega (arith, h, k)
  type_turn v w (inl h) (inr k) = omega (arith, h, k.0)
  type_turn v w (inr h) (inl k) = omega (arith, h.0, k)
  type_turn v w (inr h) (inr k) =
      let first = h.1.1.2 k.1.0 k.1.1.0 k.1.1.1 in
      let second = k.1.1.2 h.1.0 h.1.1.0 h.1.1.1 in
      omega (arith, first, second)

  How : ℕ → ℕ → ValType ℕ → ValType ℕ → Type 0
  How x y v w = Types v w ⊎ ((v ≡ w) × (x < y))

  ways : (x y : ℕ) (v w : ValType ℕ) → How x y v w → How y x w v → ⊥
  unfolding How
  ways x y v w (inl h) (inl k) = type_turn v w h k
  ways x y v w (inl h) (inr k) = let own : Types v v = subst (λ (u : ValType ℕ). Types v u) k.0 h in type_turn v v own own
  ways x y v w (inr h) (inl k) = let own : Types w w = subst (λ (u : ValType ℕ). Types w u) h.0 k in type_turn w w own own
  ways x y v w (inr h) (inr k) = omega (arith, h.1, k.1)

  pub turn : (x y : ℕ) → GoesBefore slots used parameters x y → GoesBefore slots used parameters y x → ⊥
  unfolding How Types
  turn x y h k =
      let v = h.0 in
      let w = h.1.0 in
      let same_w : k.0 ≡ w = some_same _ _ (sym k.1.1.0 ∙ h.1.1.1) in
      let same_v : k.1.0 ≡ v = some_same _ _ (sym k.1.1.1 ∙ h.1.1.0) in
      let other : How y x w v = subst (λ (u : ValType ℕ). How y x w u) same_v (subst (λ (u : ValType ℕ). How y x u k.1.0) same_w k.1.1.2) in
      ways x y v w h.1.1.2 other

pub declared_once : DeclaredOnce
declared_once slots used parameters order other a b =
    let R = GoesBefore slots used parameters in
    one_list R (turn slots used parameters) order other (sorted_of R order a.sorted) (sorted_of R other b.sorted)
    (λ z has. contains_in other z ((b.which z).1 ((a.which z).0 (in_contains order z has))))
    (λ z has. contains_in order z ((a.which z).1 ((b.which z).0 (in_contains other z has))))

-- ---- declarations

abbrev pub spread_of : List (ℕ × ValType ℕ) → List (ValType ℕ)
spread_of groups = flat_map (λ (g : ℕ × ValType ℕ). replicate g.0 g.1) groups

abbrev NotFirst : ValType ℕ → List (ValType ℕ) → Type 0
NotFirst v [] = Unit {0}
NotFirst v (w ∷ ws) = v ≢ w

run : (a b : ℕ) (v : ValType ℕ) (ps qs : List (ValType ℕ)) → NotFirst v ps → NotFirst v qs → replicate a v ++ ps ≡ replicate b v ++ qs → (a ≡ b) × (ps ≡ qs)
run zero zero v ps qs n m same = (refl, same)
run zero (suc b) v [] qs n m same = absurd cc
run zero (suc b) v (p ∷ ps) qs n m same = let head : v ≡ p = cc in absurd (n head)
run (suc a) zero v ps [] n m same = absurd cc
run (suc a) zero v ps (q ∷ qs) n m same = let head : v ≡ q = cc in absurd (m head)
run (suc a) (suc b) v ps qs n m same =
    let tail : replicate a v ++ ps ≡ replicate b v ++ qs = cc in
    let rest = run a b v ps qs n m tail in
    (ap suc rest.0, rest.1)

abbrev pub Apart : ℕ × ValType ℕ → ℕ × ValType ℕ → Type 0
Apart g h = g.1 ≢ h.1

abbrev pub Filled : ℕ × ValType ℕ → Type 0
Filled g = 0 < g.0

another : (n : ℕ) (v : ValType ℕ) (gs : List (ℕ × ValType ℕ)) → AllByRecursion (Apart (n, v)) gs → AllByRecursion Filled gs → NotFirst v (spread_of gs)
another n v [] apart filled = tt
another n v ((zero, w) ∷ gs) apart filled = absurd (omega (arith, filled.0))
another n v ((suc m, w) ∷ gs) apart filled = apart.0

pub one_grouping : (gs hs : List (ℕ × ValType ℕ)) → Sorted Apart gs → Sorted Apart hs → AllByRecursion Filled gs → AllByRecursion Filled hs → spread_of gs ≡ spread_of hs → hs ≡ gs
one_grouping [] [] r s f g same = refl
one_grouping [] ((zero, w) ∷ hs) r s f g same = absurd (omega (arith, g.0))
one_grouping [] ((suc b, w) ∷ hs) r s f g same = absurd cc
one_grouping ((zero, v) ∷ gs) hs r s f g same = absurd (omega (arith, f.0))
one_grouping ((suc a, v) ∷ gs) [] r s f g same = absurd cc
one_grouping ((suc a, v) ∷ gs) ((zero, w) ∷ hs) r s f g same = absurd (omega (arith, g.0))
one_grouping ((suc a, v) ∷ gs) ((suc b, w) ∷ hs) r s f g same =
    let head : w ≡ v = cc in
    let first = another (suc a) v gs r.0 f.1 in
    let second = subst (λ (u : ValType ℕ). NotFirst u (spread_of hs)) head (another (suc b) w hs s.0 g.1) in
    let whole : replicate (suc a) v ++ spread_of gs ≡ replicate (suc b) v ++ spread_of hs = same ∙ ap (λ (u : ValType ℕ). replicate (suc b) u ++ spread_of hs) head in
    let both = run (suc a) (suc b) v (spread_of gs) (spread_of hs) first second whole in
    ap₂ ◌∷◌ (ap₂ (λ (n : ℕ) (u : ValType ℕ). (n, u)) (sym both.0) head) (one_grouping gs hs r.1 s.1 f.1 g.1 both.1)

somes_same : (xs ys : List (ValType ℕ)) → map Some xs ≡ map Some ys → xs ≡ ys
somes_same [] [] same = refl
somes_same [] (y ∷ ys) same = absurd cc
somes_same (x ∷ xs) [] same = absurd cc
somes_same (x ∷ xs) (y ∷ ys) same =
    let head : x ≡ y = cc in
    let tail : map Some xs ≡ map Some ys = cc in
    ap₂ ◌∷◌ head (somes_same xs ys tail)

pub grouped_once : GroupedOnce
grouped_once slots order groups others a b =
    one_grouping groups others (sorted_of Apart groups a.apart) (sorted_of Apart others b.apart)
    (recursion_from_All Filled groups a.filled) (recursion_from_All Filled others b.filled)
    (somes_same (spread_of groups) (spread_of others) (a.spread ∙ sym b.spread))
