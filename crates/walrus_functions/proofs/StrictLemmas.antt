-- A sorted list of keys of different locals rises strictly.
use Rattle.std.proofs.Common.{◌≡◌, ℕ, suc, ◌+◌, Bool, true, false, List, [], ◌∷◌, map, refl, sym, ap, ◌∙◌, subst, arith}
use Rattle.std.specs.Prelude.{slice_index_or, nat_eq}
use Rattle.std.specs.Cmp.{IsStrictWeakOrder}
use Rattle.std.specs.List.{IsDistinct, AllByRecursion}
use Rattle.std.specs.List.Sorted.{IsSortedBy, IsStrictlySortedBy}
use Rattle.std.specs.Ordering.{nat_cmp, ordering_then, ordering_reverse, is_lt}
use Rattle.std.specs.declared.cmp.Ordering.{Ordering}
use Rattle.std.specs.declared.cmp.Ordering.TheVariants.{Less, Equal, Greater}
use Rattle.std.proofs.lemmas.Cmp.{ranked}
use Rattle.std.proofs.lemmas.Bool.{eqb-false}
use Rattle.std.proofs.lemmas.List.Elements.{recursion_from_All}
use Rattle.std.proofs.lemmas.List.MinMax.{ranks_by}
use Rattle.std.proofs.lemmas.List.Sorted.{sorted_far}
use Rattle.walrus_functions.specs.Declaring.{by_key}
use Rattle.walrus_functions.proofs.OrderLemmas.{by_key_total}

abbrev Key : Type 0
Key = ℕ × ℕ × ℕ

abbrev pub same_last : Key → Key → Bool
same_last x y = nat_eq x.2 y.2

abbrev less : Key → Key → Bool
less x y = is_lt (by_key x y)

behind : (x : Key) (xs : List Key) → IsSortedBy less (x ∷ xs) → IsSortedBy less xs
behind x xs h k d low high =
    let next : suc k + 1 ≡ suc (k + 1) = omega arith in
    subst (λ n. less (slice_index_or (x ∷ xs) n d) (slice_index_or xs k d) ≡ false) next (h (suc k) d (omega arith) (omega arith))

then_equal : (a b : Ordering) → ordering_then a b ≡ Equal → b ≡ Equal
then_equal Less b e = absurd cc
then_equal Equal b e = e
then_equal Greater b e = absurd cc

rising : (x y : Key) → less y x ≡ false → same_last x y ≡ false → by_key x y ≡ Less
rising x y h apart = go (by_key x y) refl
  where
    go : (o : Ordering) → by_key x y ≡ o → by_key x y ≡ Less
    go Less e = e
    go Equal e = absurd (eqb-false x.2 y.2 apart (ranked x.2 y.2 Equal (sym (then_equal (ordering_then (nat_cmp x.0 y.0) (nat_cmp x.1 y.1)) (nat_cmp x.2 y.2) e))))
    go Greater e =
        let back : by_key y x ≡ Less = by_key_total.antisymm y x ∙ ap ordering_reverse e in
        let wrong : true ≡ false = sym (ap is_lt back) ∙ h in
        absurd cc

all_rising : (x : Key) (xs : List Key) → AllByRecursion (λ y. less y x ≡ false) xs → AllByRecursion (λ y. same_last x y ≡ false) xs → AllByRecursion (λ y. by_key x y ≡ Less) xs
all_rising x [] h k = tt
all_rising x (y ∷ xs) h k = (rising x y h.0 k.0, all_rising x xs h.1 k.1)

pub strictly : (xs : List Key) → IsSortedBy less xs → IsDistinct same_last xs → IsStrictlySortedBy by_key xs
unfolding IsDistinct IsStrictlySortedBy
strictly [] h k = tt
strictly (x ∷ xs) h k =
    let order : IsStrictWeakOrder less = ranks_by by_key_total (λ (y : Key). y) in
    (all_rising x xs (recursion_from_All (λ (y : Key). less y x ≡ false) xs (λ i d low. sorted_far less order (x ∷ xs) h 0 (suc i) d (omega arith) (omega arith))) k.0, strictly xs (behind x xs h) k.1)

-- what differs differs as it is seen
pub seen-distinct : {A : Type 0} (f : A → Key) (e : A → A → Bool) → ((x y : A) → same_last (f x) (f y) ≡ e x y) → (xs : List A) → IsDistinct e xs → IsDistinct same_last (map f xs)
unfolding IsDistinct
seen-distinct f e same [] h = tt
seen-distinct {A} f e same (x ∷ xs) h = (go xs h.0, seen-distinct f e same xs h.1)
  where
    go : (ys : List A) → AllByRecursion (λ y. e x y ≡ false) ys → AllByRecursion (λ y. same_last (f x) y ≡ false) (map f ys)
    go [] k = tt
    go (y ∷ ys) k = (same x y ∙ k.0, go ys k.1)
