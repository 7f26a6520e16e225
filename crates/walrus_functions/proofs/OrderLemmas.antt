-- The order in which locals are declared.
use Rattle.std.proofs.Common.{◌≡◌, ℕ, zero, suc, ◌<◌, ◌≤◌, ◌⊎◌, inl, inr, Bool, List, [], ◌∷◌, length, map, Option, Some, refl, sym, ap, ◌∙◌, subst, arith}
use Rattle.std.specs.Prelude.{All, AllPairs, Contains, unwrap_or, nat_eq}
use Rattle.std.specs.Cmp.{IsTotalOrder}
use Rattle.std.specs.List.{list_any, AllByRecursion}
use Rattle.std.specs.List.Sorted.{IsStrictlySortedBy}
use Rattle.std.specs.Ordering.{nat_cmp, ordering_then}
use Rattle.std.specs.declared.cmp.Ordering.{Ordering}
use Rattle.std.specs.declared.cmp.Ordering.TheVariants.{Less, Equal, Greater}
use Rattle.std.proofs.lemmas.Cmp.{ranked, nat_cmp_total, on_total, then_total}
use Rattle.std.proofs.lemmas.List.Elements.{All-contains, All-head, All-tail, All-cons, All-map, All-from_recursion, Contains-append_right}
use Rattle.std.proofs.lemmas.List.Kept.{AllPairs-cons}
use Rattle.std.proofs.lemmas.Map.Keys.{sorted_head, sorted_tail}
use Rattle.walrus_base.specs.Arena.{item_at}
use Rattle.walrus_base.specs.Types.{ValType}
use Rattle.walrus_base.specs.Value.{val_type}
use Rattle.walrus_base.specs.declared.value.ValType.{ValType as DeclaredValType}
use Rattle.walrus_functions.specs.DeclaredLocals.{rank, IsDeclared, TypeGoesBefore, GoesBefore, AreDeclared}
use Rattle.walrus_functions.specs.Declaring.{AreTyped, AreInOrder, typed, key_of, by_key}
use Rattle.walrus_functions.proofs.EntryLemmas as entries
use Rattle.wasm_forms.proofs.Bind.{some_same}

abbrev Key : Type 0
Key = ℕ × ℕ × ℕ

pub by_key_total : IsTotalOrder by_key
by_key_total = then_total (then_total (on_total (λ (k : Key). k.0) nat_cmp_total) (on_total (λ (k : Key). k.1) nat_cmp_total)) (on_total (λ (k : Key). k.2) nat_cmp_total)

-- ---- what stands in a list that is seen through a function

pub contains_map : {A B : Type 0} (f : A → B) (xs : List A) (x : A) → Contains xs x → Contains (map f xs) (f x)
contains_map f [] x (k, low, is) = absurd (omega arith)
contains_map f (y ∷ xs) x (zero, low, is) = (zero, omega arith, ap f is)
contains_map {A} {B} f (y ∷ xs) x (suc k, low, is) =
    let lower : k < length xs = omega (arith, low) in
    Contains-append_right (f y ∷ []) (map f xs) (f x) (contains_map f xs x (k, lower, is))

pub from_map : {A B : Type 0} (f : A → B) (xs : List A) (y : B) → Contains (map f xs) y → (x : A) × (Contains xs x × (f x ≡ y))
from_map f [] y (k, low, is) = absurd (omega arith)
from_map f (x ∷ xs) y (zero, low, is) = (x, ((zero, omega arith, refl), is))
from_map f (x ∷ xs) y (suc k, low, is) =
    let lower : k < length (map f xs) = omega (arith, low) in
    let rest = from_map f xs y (k, lower, is) in
    (rest.0, (Contains-append_right (x ∷ []) xs rest.0 rest.1.0, rest.1.1))

-- ---- comparisons

then_less : (a b : Ordering) → ordering_then a b ≡ Less → (a ≡ Less) ⊎ ((a ≡ Equal) × (b ≡ Less))
then_less Less b e = inl refl
then_less Equal b e = inr (refl, e)
then_less Greater b e = absurd cc

then_equal : (a b : Ordering) → ordering_then a b ≡ Equal → (a ≡ Equal) × (b ≡ Equal)
then_equal Less b e = absurd cc
then_equal Equal b e = (refl, e)
then_equal Greater b e = absurd cc

nat_less : (x y : ℕ) → nat_cmp x y ≡ Less → x < y
nat_less x y e = ranked x y Less (sym e)

nat_same : (x y : ℕ) → nat_cmp x y ≡ Equal → x ≡ y
nat_same x y e = ranked x y Equal (sym e)

module _ (slots : List (Option (ValType ℕ))) (used parameters : List ℕ) (is_parameter : ℕ → Bool) (are : (x : ℕ) → is_parameter x ≡ list_any (nat_eq x) parameters)
    (found : List (ℕ × DeclaredValType)) (keys : List Key) (all : AreTyped slots used is_parameter (map typed found)) (order : AreInOrder found keys)
    (alike : (v w : DeclaredValType) → val_type v ≡ val_type w → order.lowest v ≡ order.lowest w) where
  abbrev Entry : ℕ → ValType ℕ → Type 0
  Entry x v = Contains (map typed found) (x, v)

  has_type : (x : ℕ) (v : ValType ℕ) → Entry x v → item_at slots x ≡ Some v
  has_type x v here = entries.has_type slots used parameters is_parameter are (map typed found) all x v here

  one_type : (x : ℕ) (v w : ValType ℕ) → Entry x v → Entry x w → v ≡ w
  one_type x v w a b = some_same v w (sym (has_type x v a) ∙ has_type x w b)

  is_declared : (x : ℕ) (v : ValType ℕ) → Entry x v → IsDeclared slots used parameters x
  is_declared x v here = entries.is_declared slots used parameters is_parameter are (map typed found) all x v here

  entry_of : (x : ℕ) (v : ValType ℕ) → IsDeclared slots used parameters x → item_at slots x ≡ Some v → Entry x v
  entry_of x v d t = entries.entry_of slots used parameters is_parameter are (map typed found) all x v d t

  -- what a key says
  record IsKey (k : Key) : Type 0 where
    ty : ValType ℕ
    here : Entry k.2 ty
    ranked : k.0 ≡ rank ty
    there : Entry k.1 ty
    least : (y : ℕ) → Entry y ty → k.1 ≤ y

  unwrapped : (o : Option ℕ) (n d : ℕ) → o ≡ Some n → unwrap_or o d ≡ n
  unwrapped o n d e = ap (λ (p : Option ℕ). unwrap_or p d) e

  key_is : (e : ℕ × DeclaredValType) → Contains found e → IsKey (key_of order.lowest e)
  key_is e here =
      let low = All-contains (λ (e : ℕ × DeclaredValType). (n : ℕ) × ((order.lowest e.1 ≡ Some n) × (n ≤ e.0))) found e order.least.low here in
      let at : unwrap_or (order.lowest e.1) e.0 ≡ low.0 = unwrapped (order.lowest e.1) low.0 e.0 low.1.0 in
      record {
        ty = val_type e.1;
        here = contains_map typed found e here;
        ranked = refl;
        there = subst (λ (n : ℕ). Entry n (val_type e.1)) (sym at) (order.least.there e.1 low.0 low.1.0);
        least = λ y other.
            let f = from_map typed found (y, val_type e.1) other in
            let types : val_type f.0.1 ≡ val_type e.1 = ap (λ (p : ℕ × ValType ℕ). p.1) f.1.1 in
            let place : f.0.0 ≡ y = ap (λ (p : ℕ × ValType ℕ). p.0) f.1.1 in
            let lowest = All-contains (λ (e : ℕ × DeclaredValType). (n : ℕ) × ((order.lowest e.1 ≡ Some n) × (n ≤ e.0))) found f.0 order.least.low f.1.0 in
            let same : lowest.0 ≡ low.0 = some_same lowest.0 low.0 (sym lowest.1.0 ∙ alike f.0.1 e.1 types ∙ low.1.0) in
            let below = lowest.1.1 in
            omega (arith, at, place, same, below);
      }

  key_among : (k : Key) → Contains keys k → IsKey k
  key_among k here =
      let f = from_map (key_of order.lowest) found k ((order.which k).0 here) in
      subst (λ (j : Key). IsKey j) f.1.1 (key_is f.0 f.1.0)

  goes_before : (j k : Key) → IsKey j → IsKey k → by_key j k ≡ Less → GoesBefore slots used parameters j.2 k.2
  goes_before j k a b less = (a.ty, (b.ty, (has_type j.2 a.ty a.here, has_type k.2 b.ty b.here, by_local (then_less (ordering_then (nat_cmp j.0 k.0) (nat_cmp j.1 k.1)) (nat_cmp j.2 k.2) less))))
    where
      same_ranks : nat_cmp j.0 k.0 ≡ Equal → rank a.ty ≡ rank b.ty
      same_ranks e = sym a.ranked ∙ nat_same j.0 k.0 e ∙ b.ranked

      by_type : (nat_cmp j.0 k.0 ≡ Less) ⊎ ((nat_cmp j.0 k.0 ≡ Equal) × (nat_cmp j.1 k.1 ≡ Less)) → TypeGoesBefore slots used parameters a.ty b.ty
      by_type (inl e) = inl (subst (λ (n : ℕ). n < rank b.ty) a.ranked (subst (λ (n : ℕ). j.0 < n) b.ranked (nat_less j.0 k.0 e)))
      by_type (inr (e, f)) =
          let below = nat_less j.1 k.1 f in
          inr (same_ranks e, (j.1, (is_declared j.1 a.ty a.there, has_type j.1 a.ty a.there, λ y d t. let up = b.least y (entry_of y b.ty d t) in omega (arith, below, up))))

      by_local : (ordering_then (nat_cmp j.0 k.0) (nat_cmp j.1 k.1) ≡ Less) ⊎ ((ordering_then (nat_cmp j.0 k.0) (nat_cmp j.1 k.1) ≡ Equal) × (nat_cmp j.2 k.2 ≡ Less)) → TypeGoesBefore slots used parameters a.ty b.ty ⊎ ((a.ty ≡ b.ty) × (j.2 < k.2))
      by_local (inl e) = inl (by_type (then_less (nat_cmp j.0 k.0) (nat_cmp j.1 k.1) e))
      by_local (inr (e, f)) =
          let same = then_equal (nat_cmp j.0 k.0) (nat_cmp j.1 k.1) e in
          inr (one_type j.1 a.ty b.ty a.there (subst (λ (n : ℕ). Entry n b.ty) (sym (nat_same j.1 k.1 same.1)) b.there), nat_less j.2 k.2 f)

  before_rest : (k : Key) (ks : List Key) → IsKey k → All IsKey ks → AllByRecursion (λ y. by_key k y ≡ Less) ks → AllByRecursion (λ y. GoesBefore slots used parameters k.2 y.2) ks
  before_rest k [] a rest h = tt
  before_rest k (j ∷ ks) a rest h = (goes_before k j a (All-head IsKey j ks rest) h.0, before_rest k ks a (All-tail IsKey j ks rest) h.1)

  rises : (ks : List Key) → All IsKey ks → IsStrictlySortedBy by_key ks → AllPairs (GoesBefore slots used parameters) (map (λ (k : Key). k.2) ks)
  rises [] each h = λ i j d less low. absurd (omega arith)
  rises (k ∷ ks) each h = AllPairs-cons (GoesBefore slots used parameters) k.2 (map (λ (k : Key). k.2) ks)
      (All-map (GoesBefore slots used parameters k.2) (λ (k : Key). k.2) ks (All-from_recursion (λ (y : Key). GoesBefore slots used parameters k.2 y.2) ks (before_rest k ks (All-head IsKey k ks each) (All-tail IsKey k ks each) (sorted_head by_key k ks h))))
      (rises ks (All-tail IsKey k ks each) (sorted_tail by_key k ks h))

  each_key : (ks : List Key) → ((k : Key) → Contains ks k → IsKey k) → All IsKey ks
  each_key [] h = λ k d low. absurd (omega arith)
  each_key (k ∷ ks) h = All-cons IsKey k ks (h k (zero, omega arith, refl)) (each_key ks (λ j c. h j (Contains-append_right (k ∷ []) ks j c)))

  pub in_declared_order : AreDeclared slots used parameters (map (λ (k : Key). k.2) keys)
  in_declared_order = record {
    which = λ x. (
      λ among. let f = from_map (λ (k : Key). k.2) keys x among in let key = key_among f.0 f.1.0 in subst (λ (y : ℕ). IsDeclared slots used parameters y) f.1.1 (is_declared f.0.2 key.ty key.here),
      λ d. let f = from_map typed found (x, d.ty) (entry_of x d.ty d d.typed) in
          let key = (order.which (key_of order.lowest f.0)).1 (contains_map (key_of order.lowest) found f.0 f.1.0) in
          subst (λ (y : ℕ). Contains (map (λ (k : Key). k.2) keys) y) (ap (λ (p : ℕ × ValType ℕ). p.0) f.1.1) (contains_map (λ (k : Key). k.2) keys (key_of order.lowest f.0) key),
    );
    sorted = rises keys (each_key keys key_among) order.sorted;
  }
