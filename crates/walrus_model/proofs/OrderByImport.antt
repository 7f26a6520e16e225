-- Where imports and items name each other, what imports bring, by rising import, and behind it what is defined, in order, is all of a space in
-- the order of the plan.
use Rattle.std.proofs.Common.{◌≡◌, ◌⊎◌, inl, inr, ⊎_elim, ℕ, ◌<◌, Bool, true, false, List, [], ◌∷◌, ◌++◌, refl, sym, ap, ◌∙◌, subst, Some, None, eqb-true}
use Rattle.std.specs.Prelude.{Option, IsSome, AllPairs, Contains, filter_map, nat_eq}
use Rattle.std.specs.List.{AllByRecursion, IsDistinct, cons_option}
use Rattle.walrus_base.specs.Operators.{Space, Item}
use Rattle.walrus_functions.proofs.LawOrder.{Sorted, sorted_of}
use Rattle.walrus_model.specs.Abstract.{Abstract, Import}
use Rattle.walrus_model.specs.Imported.{code, import_number, import_number_by, number_in}
use Rattle.walrus_model.specs.Order.{ByImport}
use Rattle.walrus_model.specs.Ordered.{Ordered}
use Rattle.walrus_model.specs.Spaces.{look}
use Rattle.walrus_model.specs.WellMade.{ImportsMatch, import_of}
use Rattle.walrus_model.proofs.ImportedZip.{one_code}
use Rattle.walrus_base.proofs.Lists.{Contains-append_1, Contains-append_2, Contains-head, Contains-tail, Contains-uncons, Contains-none}
use Rattle.walrus_model.proofs.OrderOfPlaces.{pairs_both, pairs_chosen}
use Rattle.walrus_base.proofs.Standing.{self_eq, some_inj}
use Rattle.walrus_functions.proofs.Somes.{none_some}

-- ---- what is chosen of a list

module _ {A B : Type 0} (f : A → Option B) where
  pub chosen_there : (xs : List A) (x : A) (y : B) → Contains xs x → f x ≡ Some y → Contains (filter_map f xs) y
  chosen_there [] x y at is = absurd (Contains-none x at)
  chosen_there (a ∷ xs) x y at is = ⊎_elim
      (λ (same : a ≡ x). (let first : f a ≡ Some y = ap f same ∙ is in rw first (Contains-head y (filter_map f xs))))
      (λ later. behind (f a) refl (chosen_there xs x y later is))
      (Contains-uncons a x xs at)
    where
      behind : (o : Option B) → f a ≡ o → Contains (filter_map f xs) y → Contains (filter_map f (a ∷ xs)) y
      behind None at h = rw at h
      behind (Some b) at h = rw at (Contains-tail b y (filter_map f xs) h)

  abbrev ChosenFrom : List A → B → Type 0
  ChosenFrom xs y = Contains (filter_map f xs) y → (x : A) × Contains xs x × (f x ≡ Some y)

  chosen_step : (a : A) (xs : List A) (y : B) (o : Option B) → f a ≡ o → ChosenFrom xs y → ChosenFrom (a ∷ xs) y
  chosen_step a xs y None is more here =
      let found = more (subst (λ (q : Option B). Contains (cons_option q (filter_map f xs)) y) is here) in
      (found.0, Contains-tail a found.0 xs found.1, found.2)
  chosen_step a xs y (Some b) is more here = ⊎_elim
      (λ (same : b ≡ y). (a, Contains-head a xs, is ∙ ap (λ (z : B). Some z) same))
      (λ later. let found = more later in (found.0, Contains-tail a found.0 xs found.1, found.2))
      (Contains-uncons b y (filter_map f xs) (subst (λ (q : Option B). Contains (cons_option q (filter_map f xs)) y) is here))

  pub chosen_from : (xs : List A) (y : B) → ChosenFrom xs y
  chosen_from [] y at = absurd (Contains-none y at)
  chosen_from (a ∷ xs) y at = chosen_step a xs y (f a) refl (chosen_from xs y) at

-- ---- a list in a strict order names nothing twice

not_same : (R : ℕ → ℕ → Type 0) → ((i : ℕ) → R i i → ⊥) → (x y : ℕ) → R x y → (b : Bool) → nat_eq x y ≡ b → b ≡ false
not_same R apart x y r false e = refl
not_same R apart x y r true e = absurd (apart x (subst (λ (z : ℕ). R x z) (sym (eqb-true x y e)) r))

each_differs : (R : ℕ → ℕ → Type 0) → ((i : ℕ) → R i i → ⊥) → (x : ℕ) (ys : List ℕ) → AllByRecursion (R x) ys → AllByRecursion (λ y. nat_eq x y ≡ false) ys
each_differs R apart x [] h = tt
each_differs R apart x (y ∷ ys) h = (not_same R apart x y h.0 (nat_eq x y) refl, each_differs R apart x ys h.1)

sorted_differ : (R : ℕ → ℕ → Type 0) → ((i : ℕ) → R i i → ⊥) → (xs : List ℕ) → Sorted R xs → IsDistinct nat_eq xs
unfolding IsDistinct
sorted_differ R apart [] h = tt
sorted_differ R apart (x ∷ xs) h = (each_differs R apart x xs h.0, sorted_differ R apart xs h.1)

-- ---- what an import brings to a space

in_space : (x : Item) (s : Space) → nat_eq (code x.0) (code s) ≡ true → number_in s x ≡ Some x.1
in_space x s same = rw same refl

out_of_space : (x : Item) (s : Space) → nat_eq (code x.0) (code s) ≡ false → number_in s x ≡ None
out_of_space x s other = rw other refl

number_is : (s : Space) (x : Item) (i : ℕ) (b : Bool) → nat_eq (code x.0) (code s) ≡ b → number_in s x ≡ Some i → x ≡ (s, i)
number_is s x i true same e =
    let space : x.0 ≡ s = one_code x.0 s (eqb-true (code x.0) (code s) same) in
    let number : Some x.1 ≡ Some i = sym (in_space x s same) ∙ e in
    ap (λ (t : Space). (t, x.1)) space ∙ ap (λ (n : ℕ). (s, n)) (some_inj x.1 i number)
number_is s x i false other e = absurd (none_some i (sym (out_of_space x s other) ∙ e))

pub own_number : (s : Space) (i : ℕ) → number_in s (s, i) ≡ Some i
own_number s i = rw (self_eq (code s)) refl

by_number : (v : Abstract) (s : Space) (i : ℕ) (o : Option Import) → import_number_by s o ≡ Some i → (x : Import) × (o ≡ Some x) × (x.item ≡ (s, i))
by_number v s i (Some x) e = (x, refl, number_is s x.item i (nat_eq (code x.item.0) (code s)) refl e)
by_number v s i None e = absurd (none_some i e)

-- ---- one space

-- how the items of a space are ordered by what brings them
pub record OrdersSpace (v : Abstract) (s : Space) : Type 0 where
  pub live : (i p : ℕ) → import_of v (s, i) ≡ Some p → IsSome (look v s i)
  pub brought : (i j p q : ℕ) → import_of v (s, i) ≡ Some p → import_of v (s, j) ≡ Some q → p < q → ByImport v s i j
  pub apart : (i : ℕ) → ByImport v s i i → ⊥

-- these are the imports of a module, in order
pub record ListsImports (v : Abstract) (order : List ℕ) : Type 0 where
  pub rises : AllPairs (λ p q. p < q) order
  pub all : (p : ℕ) (x : Import) → v.imports p ≡ Some x → Contains order p

-- these are the items of a space that no import brings, in order, behind all that imports bring
pub record ListsOwn (v : Abstract) (s : Space) (own : List ℕ) : Type 0 where
  pub there : (i : ℕ) → Contains own i → IsSome (look v s i)
  pub all : (i : ℕ) → IsSome (look v s i) → import_of v (s, i) ≡ None → Contains own i
  pub sorted : AllPairs (ByImport v s) own
  pub behind : (i j p : ℕ) → import_of v (s, i) ≡ Some p → Contains own j → ByImport v s i j

module _ (v : Abstract) (paired : ImportsMatch v) (s : Space) where
  pub brought_of : (p i : ℕ) → import_number v s p ≡ Some i → import_of v (s, i) ≡ Some p
  brought_of p i e =
      let x = by_number v s i (v.imports p) e in
      sym (ap (import_of v) x.2) ∙ paired.imports p x.0 x.1

  -- what imports bring to the space says so
  pub brought_in : (order : List ℕ) (i : ℕ) → Contains (filter_map (import_number v s) order) i → (p : ℕ) × (import_of v (s, i) ≡ Some p)
  brought_in order i at = let p = chosen_from (import_number v s) order i at in (p.0, brought_of p.0 i p.2)

pub in_either : {A : Type 0} (xs ys : List A) (x : A) → Contains (xs ++ ys) x → Contains xs x ⊎ Contains ys x
in_either [] ys x at = inr at
in_either {A} (y ∷ xs) ys x at = ⊎_elim
    (λ (same : y ≡ x). inl (subst (λ (z : A). Contains (y ∷ xs) z) same (Contains-head y xs)))
    (λ later. ⊎_elim (λ first. inl (Contains-tail y x xs first)) (λ second. inr second) (in_either xs ys x later))
    (Contains-uncons y x (xs ++ ys) at)

module _ (v : Abstract) (paired : ImportsMatch v) (s : Space) (orders : OrdersSpace v s) (order own : List ℕ) (imports : ListsImports v order) (owned : ListsOwn v s own) where
  abbrev brought : List ℕ
  brought = filter_map (import_number v s) order

  pub whole_pairs : AllPairs (ByImport v s) (brought ++ own)
  whole_pairs = pairs_both (ByImport v s) brought own
      (pairs_chosen (λ p q. p < q) (ByImport v s) (import_number v s) (λ p q i j lt first second. orders.brought i j p q (brought_of v paired s p i first) (brought_of v paired s q j second) lt) order imports.rises)
      owned.sorted
      (λ i j first second. let p = brought_in v paired s order i first in owned.behind i j p.0 p.1 second)

  whole_chosen : (i : ℕ) → Contains brought i ⊎ Contains own i → IsSome (look v s i)
  whole_chosen i (inl at) = let p = brought_in v paired s order i at in orders.live i p.0 p.1
  whole_chosen i (inr at) = owned.there i at

  whole_all : (i : ℕ) → IsSome (look v s i) → (o : Option ℕ) → import_of v (s, i) ≡ o → Contains (brought ++ own) i
  whole_all i live None is = Contains-append_2 i brought own (owned.all i live is)
  whole_all i live (Some p) is =
      let y = paired.items (s, i) p is in
      let number : import_number v s p ≡ Some i = ap (import_number_by s) y.1 ∙ ap (number_in s) y.2 ∙ own_number s i in
      Contains-append_1 i brought own (chosen_there (import_number v s) order p i (imports.all p y.0 y.1) number)

  pub whole_ordered : Ordered (look v s) (brought ++ own)
  whole_ordered = record {
    differ = sorted_differ (ByImport v s) orders.apart (brought ++ own) (sorted_of (ByImport v s) (brought ++ own) whole_pairs);
    chosen = λ i at. whole_chosen i (in_either brought own i at);
    all = λ i live. whole_all i live (import_of v (s, i)) refl;
  }
