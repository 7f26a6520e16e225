-- What stands in a list as entries with their places: they rise, and what they give to a place is what stands there.
use Rattle.std.proofs.Common.{◌≡◌, ℕ, zero, suc, ◌+◌, ◌<◌, Bool, true, false, List, [], ◌∷◌, ◌++◌, map, refl, ap, ◌∙◌, subst, arith, Some, None}
use Rattle.std.specs.Prelude.{Option, All, AllPairs, filter_map, nat_eq, option_and_then, option_map, option_to_list, slice_get, if◌then◌else◌}
use Rattle.std.specs.List.{AllByRecursion, cons_option}
use Rattle.std.proofs.lemmas.Bool.{ne_eqb}
use Rattle.std.proofs.lemmas.List.{append-nil}
use Rattle.std.proofs.lemmas.List.Elements.{All-from_recursion}
use Rattle.std.proofs.lemmas.List.Kept.{AllPairs-cons}
use Rattle.walrus_base.specs.Arena.{entries, entries_from, item_at}
use Rattle.walrus_model.specs.Abstract.{Name}
use Rattle.walrus_base.proofs.Standing.{self_eq, some_inj}
use Rattle.walrus_theorem.proofs.OneName.{at, looked, looked_in, own}
use Rattle.walrus_theorem.specs.Text.{NameMap}
use Rattle.walrus_writing.specs.Names.{filled}

-- ---- what they give to a place

module _ {V Y : Type 0} (give : V → List Y) where
  abbrev pub given : Option V → List Y
  given None = []
  given (Some v) = give v

  by_test : (k j : ℕ) (v : V) (es : List (ℕ × V)) (b : Bool) → nat_eq k j ≡ b → at give ((k, v) ∷ es) j ≡ (if b then give v else []) ++ at give es j
  by_test k j v es b is = ap (λ (t : Bool). (if t then give v else []) ++ at give es j) is

  pub none_below : (k j : ℕ) (os : List (Option V)) → j < k → at give (entries_from k os) j ≡ []
  none_below k j [] low = refl
  none_below k j (None ∷ os) low = none_below (k + 1) j os (omega (arith, low))
  none_below k j (Some v ∷ os) low =
      by_test k j v (entries_from (k + 1) os) false (ne_eqb k j (λ same. omega (arith, same, low)))
      ∙ none_below (k + 1) j os (omega (arith, low))

  same_place : (k j : ℕ) → k ≡ j → nat_eq k j ≡ true
  same_place k j e = subst (λ (m : ℕ). nat_eq k m ≡ true) e (self_eq k)

  pub gives_at : (k i j : ℕ) (os : List (Option V)) → j ≡ k + i → at give (entries_from k os) j ≡ given (item_at os i)
  gives_at k i j [] e = refl
  gives_at k zero j (None ∷ os) e = none_below (k + 1) j os (omega (arith, e))
  gives_at k (suc i) j (None ∷ os) e = gives_at (k + 1) i j os (omega (arith, e))
  gives_at k zero j (Some v ∷ os) e =
      by_test k j v (entries_from (k + 1) os) true (same_place k j (omega (arith, e)))
      ∙ ap (λ (l : List Y). give v ++ l) (none_below (k + 1) j os (omega (arith, e)))
      ∙ append-nil (give v)
  gives_at k (suc i) j (Some v ∷ os) e =
      by_test k j v (entries_from (k + 1) os) false (ne_eqb k j (λ same. omega (arith, same, e)))
      ∙ gives_at (k + 1) i j os (omega (arith, e))

given_list : (o : Option Name) → given (own tt) o ≡ option_to_list o
given_list None = refl
given_list (Some name) = refl

-- a map of names along a list
pub looked_entries : (os : List (Option Name)) (i : ℕ) → looked (entries os) i ≡ option_to_list (item_at os i)
looked_entries os i = gives_at (own tt) 0 i i os (omega arith) ∙ given_list (item_at os i)

-- a map that names nothing names nothing either way
pub given_filled : (x : ℕ) (names : NameMap) → given (looked_in x) (filled names) ≡ looked names x
given_filled x [] = refl
given_filled x (e ∷ es) = refl

-- ---- what stands at a place of a list that is made of another

pub none_some : {A : Type 0} {X : Type 0} (x : X) → ◌≡◌ {A = Option X} None (Some x) → A
none_some x e = absurd cc

pub item_of_map : {A B : Type 0} (f : A → Option B) (xs : List A) (i : ℕ) (x : A) → slice_get xs i ≡ Some x → item_at (map f xs) i ≡ f x
item_of_map f [] i x e = none_some x e
item_of_map f (y ∷ xs) zero x e = ap f (some_inj y x e)
item_of_map f (y ∷ xs) (suc i) x e = item_of_map f xs i x e

pub map_of_item : {A B : Type 0} (f : A → Option B) (xs : List A) (i : ℕ) (b : B) → item_at (map f xs) i ≡ Some b → (x : A) × (slice_get xs i ≡ Some x) × (f x ≡ Some b)
map_of_item f [] i b e = none_some b e
map_of_item f (y ∷ xs) zero b e = (y, refl, e)
map_of_item f (y ∷ xs) (suc i) b e = map_of_item f xs i b e

pub item_through : {A B : Type 0} (f : A → Option B) (os : List (Option A)) (i : ℕ) → item_at (map (option_and_then f) os) i ≡ option_and_then f (item_at os i)
item_through f [] i = refl
item_through f (o ∷ os) zero = refl
item_through f (o ∷ os) (suc i) = item_through f os i

-- names of things that stand in a list
module _ (f : ℕ → Option Name) where
  abbrev pub entry_of : ℕ × ℕ → Option (ℕ × Name)
  entry_of u = option_map (λ name. (u.0, name)) (f u.1)

  through_step : (k : ℕ) (o : Option Name) (os : List (Option Name)) (rest : NameMap) → rest ≡ entries_from (k + 1) os → cons_option (option_map (λ (name : Name). (k, name)) o) rest ≡ entries_from k (o ∷ os)
  through_step k None os rest same = same
  through_step k (Some name) os rest same = ap (λ (l : NameMap). (k, name) ∷ l) same

  pub named_through : (k : ℕ) (os : List (Option ℕ)) → filter_map entry_of (entries_from k os) ≡ entries_from k (map (option_and_then f) os)
  named_through k [] = refl
  named_through k (None ∷ os) = named_through (k + 1) os
  named_through k (Some x ∷ os) = through_step k (f x) (map (option_and_then f) os) (filter_map entry_of (entries_from (k + 1) os)) (named_through (k + 1) os)

-- ---- all entries

pub all_entries : {X : Type 0} (P : ℕ × X → Type 0) (k : ℕ) (os : List (Option X)) → ((i j : ℕ) (x : X) → j ≡ k + i → item_at os i ≡ Some x → P (j, x)) → AllByRecursion P (entries_from k os)
all_entries P k [] h = tt
all_entries P k (None ∷ os) h = all_entries P (k + 1) os (λ i j x e at. h (suc i) j x (omega (arith, e)) at)
all_entries P k (Some x ∷ os) h = (h 0 k x (omega arith) refl, all_entries P (k + 1) os (λ i j y e at. h (suc i) j y (omega (arith, e)) at))

pub each_entry : {X : Type 0} (P : ℕ × X → Type 0) (k : ℕ) (os : List (Option X)) → ((i j : ℕ) (x : X) → j ≡ k + i → item_at os i ≡ Some x → P (j, x)) → All P (entries_from k os)
each_entry P k os h = All-from_recursion P (entries_from k os) (all_entries P k os h)

-- ---- they rise

pub entries_rise_from : {X : Type 0} (k : ℕ) (os : List (Option X)) → AllPairs (λ (d : ℕ × X) (e : ℕ × X). d.0 < e.0) (entries_from k os)
entries_rise_from k [] = λ i j d less low. absurd (omega (arith, low))
entries_rise_from k (None ∷ os) = entries_rise_from (k + 1) os
entries_rise_from {X} k (Some x ∷ os) =
    AllPairs-cons (λ (d : ℕ × X) (e : ℕ × X). d.0 < e.0) (k, x) (entries_from (k + 1) os) (each_entry (λ (e : ℕ × X). k < e.0) (k + 1) os (λ i j y is at. omega (arith, is))) (entries_rise_from (k + 1) os)
