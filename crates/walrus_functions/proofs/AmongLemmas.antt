-- Whether a local is among others.
use Rattle.std.proofs.Common.{◌≡◌, ◌↔◌, ◌<◌, ◌≤◌, ℕ, zero, suc, Bool, true, false, List, [], ◌∷◌, length, map, get_or, refl, sym, ap, ap₂, ◌∙◌, subst, arith, ◌-◌, ◌&&◌, Result, Ok, Err, IfOk, ltb, ltb-true, ltb-false, leb-true, le-leb}
use Rattle.std.specs.Prelude.{Contains, nat_eq, nat_le, is_ok}
use Rattle.std.specs.List.{AllByRecursion, list_any}
use Rattle.std.specs.List.Sorted.{IsBinarySearchResult, IsNonDecreasingBy, IsPartitionPoint, IsSearchInRange, IsStrictlySortedBy}
use Rattle.std.specs.Ordering.{nat_cmp, ordering_index}
use Rattle.std.specs.declared.cmp.Ordering.TheVariants.{Less, Greater}
use Rattle.std.proofs.lemmas.Bool.{eqb-true, and_parts}
use Rattle.std.proofs.lemmas.Bool.Decides.{nat_tests}
use Rattle.std.proofs.lemmas.Cmp.{ranked, nat_eq_equiv}
use Rattle.std.proofs.lemmas.List.{get_or_default}
use Rattle.std.proofs.lemmas.Map.Views.{Contains-from_any, list_any-from_Contains}
use Rattle.walrus_base.specs.Id.{place}
use Rattle.walrus_base.specs.declared.id.Id.{Id}
use Rattle.walrus_base.specs.declared.keys.LocalKey.{LocalKey}
use Rattle.walrus_functions.specs.Declaring.{AreOnce}
use Rattle.walrus_functions.specs.Marked.{AreMarked, is_marked}
use Rattle.walrus_functions.proofs.OrderLemmas.{contains_map, from_map}

abbrev Local : Type 0
Local = Id LocalKey

-- ---- a test and what it tells

pub among : (x : ℕ) (xs : List ℕ) → list_any (nat_eq x) xs ≡ true → Contains xs x
among x xs h = Contains-from_any (λ a b same. eqb-true a b same) x xs h

pub tested : (x : ℕ) (xs : List ℕ) → Contains xs x → list_any (nat_eq x) xs ≡ true
tested x xs h = list_any-from_Contains nat_eq_equiv x xs h

-- lists of the same places
same_test : (x : ℕ) (xs ys : List ℕ) → (Contains xs x ↔ Contains ys x) → list_any (nat_eq x) xs ≡ list_any (nat_eq x) ys
same_test x xs ys same = go (list_any (nat_eq x) xs) (list_any (nat_eq x) ys) refl refl
  where
    go : (a b : Bool) → list_any (nat_eq x) xs ≡ a → list_any (nat_eq x) ys ≡ b → list_any (nat_eq x) xs ≡ list_any (nat_eq x) ys
    go true b e f = let h = tested x ys (same.0 (among x xs e)) in cc
    go false true e f = let h = tested x xs (same.1 (among x ys f)) in cc
    go false false e f = cc

once_are : (named once : List ℕ) → AreOnce named once → (ids : List Local) → map (λ id. list_any (nat_eq (place id)) once) ids ≡ map (λ id. list_any (nat_eq (place id)) named) ids
once_are named once h [] = refl
once_are named once h (id ∷ ids) = ap₂ (λ (b : Bool) (bs : List Bool). b ∷ bs) (same_test (place id) once named (h.same (place id))) (once_are named once h ids)

-- what is told by the named ones that are taken once
pub once_tell : {X E : Type 0} (view : X → List Bool) (r : Result X E) (named once : List ℕ) (ids : List Local) → AreOnce named once → IfOk r (λ x. view x ≡ map (λ id. list_any (nat_eq (place id)) once) ids) → IfOk r (λ x. view x ≡ map (λ id. list_any (nat_eq (place id)) named) ids)
once_tell view (Ok x) named once ids h is = is ∙ once_are named once h ids
once_tell view (Err e) named once ids h is = tt

-- what is told of ids is told of their places
pub of_places : (test : ℕ → Bool) (ids : List Local) → map (λ id. test (place id)) ids ≡ map test (map place ids)
of_places test [] = refl
of_places test (id ∷ ids) = ap (λ (bs : List Bool). test (place id) ∷ bs) (of_places test ids)

-- ---- flags

flag_test : (first : ℕ) (flags : List Bool) (places : List ℕ) → AreMarked first flags places → (x : ℕ) → is_marked first flags x ≡ list_any (nat_eq x) places
flag_test first flags places h x = go (is_marked first flags x) (list_any (nat_eq x) places) refl refl
  where
    go : (a b : Bool) → is_marked first flags x ≡ a → list_any (nat_eq x) places ≡ b → is_marked first flags x ≡ list_any (nat_eq x) places
    go true b e f =
        let set = and_parts (nat_le first x) (get_or flags (x - first) false) e in
        let t = tested x places ((h x).1 (leb-true first x set.0, set.1)) in
        cc
    go false true e f =
        let set = (h x).0 (among x places f) in
        let is : is_marked first flags x ≡ true = ap₂ (λ (a b : Bool). a && b) (le-leb first x set.0) set.1 in
        cc
    go false false e f = cc

flags_are : (first : ℕ) (flags : List Bool) (places : List ℕ) → AreMarked first flags places → (ids : List Local) → map (λ id. is_marked first flags (place id)) ids ≡ map (λ id. list_any (nat_eq (place id)) places) ids
flags_are first flags places h [] = refl
flags_are first flags places h (id ∷ ids) = ap₂ (λ (b : Bool) (bs : List Bool). b ∷ bs) (flag_test first flags places h (place id)) (flags_are first flags places h ids)

-- what is told by flags
pub flags_tell : {X E : Type 0} (view : X → List Bool) (r : Result X E) (first : ℕ) (flags : List Bool) (places : List ℕ) (ids : List Local) → AreMarked first flags places → IfOk r (λ x. view x ≡ map (λ id. is_marked first flags (place id)) ids) → IfOk r (λ x. view x ≡ map (λ id. list_any (nat_eq (place id)) places) ids)
flags_tell view (Ok x) first flags places ids h is = is ∙ flags_are first flags places h ids
flags_tell view (Err e) first flags places ids h is = tt

-- ---- a search by halves

above : (x : ℕ) (ids : List Local) → AllByRecursion (λ p. nat_cmp x p ≡ Less) (map place ids) → (j : ℕ) (d : Local) → j < length ids → x < place (get_or ids j d)
above x [] h j d low = absurd (omega (arith, low))
above x (a ∷ ids) h zero d low = ranked x (place a) _ (sym h.0)
above x (a ∷ ids) h (suc j) d low = above x ids h.1 j d (omega (arith, low))

rises : (ids : List Local) → IsStrictlySortedBy nat_cmp (map place ids) → (i j : ℕ) (d : Local) → i ≤ j → j < length ids → place (get_or ids i d) ≤ place (get_or ids j d)
unfolding IsStrictlySortedBy
rises [] h i j d le low = absurd (omega (arith, low))
rises (a ∷ ids) h zero zero d le low = omega arith
rises (a ∷ ids) h zero (suc j) d le low = let far = above (place a) ids h.0 j d (omega (arith, low)) in omega (arith, far)
rises (a ∷ ids) h (suc i) zero d le low = absurd (omega (arith, le))
rises (a ∷ ids) h (suc i) (suc j) d le low = rises ids h.1 i j d (omega (arith, le)) (omega (arith, low))

module _ (ids : List Local) (rising : IsStrictlySortedBy nat_cmp (map place ids)) (x : ℕ) where
  higher : (a b : ℕ) → a ≤ b → ordering_index (nat_cmp a x) ≤ ordering_index (nat_cmp b x)
  higher a b le = grind (arith, nat_tests)

  answers_rise : IsNonDecreasingBy (λ y. ordering_index (nat_cmp (place y) x)) ids
  answers_rise i j d le low = higher (place (get_or ids i d)) (place (get_or ids j d)) (rises ids rising i j d le low)

  -- past all lower ones and before all higher ones there is none
  nowhere : (i : ℕ) → IsBinarySearchResult {X = Local} (λ y. nat_cmp (place y) x) ids (Err i) → Contains (map place ids) x → ⊥
  nowhere i h among_ids =
      let f = from_map place ids x among_ids in
      let parted = h answers_rise in
      let k = f.1.0.0 in
      let low = f.1.0.1 in
      let is : place (get_or ids k f.0) ≡ x = ap place f.1.0.2 ∙ f.1.1 in
      go k f.0 low is parted (ltb k i) refl
    where
      go : (k : ℕ) (d : Local) → k < length ids → place (get_or ids k d) ≡ x → IsPartitionPoint {X = Local} (λ y. nat_cmp (place y) x ≡ Less) (λ y. nat_cmp (place y) x ≡ Greater) ids i → (b : Bool) → ltb k i ≡ b → ⊥
      go k d low is parted true e =
          let below = ltb-true k i e in
          let less : place (get_or ids k d) < x = ranked _ x _ (sym (parted.0 k d (omega arith) below)) in
          omega (arith, less, is)
      go k d low is parted false e =
          let past = ltb-false k i e in
          let more : x < place (get_or ids k d) = ranked _ x _ (sym (parted.1 k d past low)) in
          omega (arith, more, is)

  pub searched : (r : Result ℕ ℕ) → IsSearchInRange r (length ids) → IsBinarySearchResult {X = Local} (λ y. nat_cmp (place y) x) ids r → is_ok r ≡ list_any (nat_eq x) (map place ids)
  searched (Ok i) low h = go ids refl
    where
      go : (xs : List Local) → xs ≡ ids → true ≡ list_any (nat_eq x) (map place ids)
      go [] same = absurd (omega (arith, low, ap length same))
      go (d ∷ xs) same =
          let at = get_or ids i d in
          let is : place at ≡ x = ranked _ x _ (sym (h d)) in
          sym (tested x (map place ids) (subst (λ (p : ℕ). Contains (map place ids) p) is (contains_map place ids at (i, low, get_or_default ids i at d low))))
  searched (Err i) low h = go (list_any (nat_eq x) (map place ids)) refl
    where
      go : (b : Bool) → list_any (nat_eq x) (map place ids) ≡ b → false ≡ list_any (nat_eq x) (map place ids)
      go true e = absurd (nowhere i h (among x (map place ids) e))
      go false e = sym e
