-- Locals of which each is taken once.
use Rattle.std.proofs.Common.{◌≡◌, ◌↔◌, ℕ, Bool, true, false, List, [], ◌∷◌, ◌++◌, map, refl, sym, ap, ◌∙◌, subst, arith, ◌||◌, Some, Result, Ok, Err, IfOk, eqb, ltb, ltb-true}
use Rattle.std.specs.Prelude.{Contains, IsPermutation, IsSorted, nat_eq, Option}
use Rattle.std.specs.Cmp.{IsTotalOrder, IsEquivalence}
use Rattle.std.specs.List.{IsDistinct, AllByRecursion, dedup, list_any}
use Rattle.std.specs.List.Sorted.{IsStrictlySortedBy}
use Rattle.std.specs.Ordering.{nat_cmp, is_eq, eq_by_cmp}
use Rattle.std.specs.declared.cmp.Ordering.{Ordering}
use Rattle.std.specs.declared.cmp.Ordering.TheVariants.{Less}
use Rattle.std.proofs.lemmas.Bool.{eqb-true}
use Rattle.std.proofs.lemmas.Cmp.{nat_cmp_total, nat_eq_equiv, on_total}
use Rattle.std.proofs.lemmas.List.Elements.{All-contains}
use Rattle.std.proofs.lemmas.List.Kept.{Any-dedup, Contains-from_dedup, IsStrictlySortedBy-dedup}
use Rattle.std.proofs.lemmas.List.Sorted.{Contains-permutation, IsPermutation-sym}
use Rattle.std.proofs.lemmas.Map.Keys.{IsDistinct-from_sorted, IsDistinct-push}
use Rattle.std.proofs.lemmas.Map.Views.{Contains-from_any, list_any-from_Contains}
use Rattle.walrus_base.specs.Arena.{item_at}
use Rattle.walrus_base.specs.Id.{place}
use Rattle.walrus_base.specs.Types.{ValType}
use Rattle.walrus_base.specs.declared.id.Id.{Id}
use Rattle.walrus_base.specs.declared.keys.LocalKey.{LocalKey}
use Rattle.walrus_base.specs.declared.value.ValType.{ValType as DeclaredValType}
use Rattle.walrus_base.specs.Value.{val_type}
use Rattle.walrus_functions.specs.DeclaredLocals.{AreDeclared}
use Rattle.walrus_functions.specs.Declaring.{AreOnce, AreTyped, AreInOrder, typed, same_local}
use Rattle.walrus_functions.proofs.OrderLemmas.{contains_map, from_map, in_declared_order}

eq_nat : (x y : ℕ) → is_eq (nat_cmp x y) ≡ nat_eq x y
eq_nat x y = go (ltb x y) (eqb x y) refl refl
  where
    go : (s t : Bool) → ltb x y ≡ s → eqb x y ≡ t → is_eq (nat_cmp x y) ≡ nat_eq x y
    go true true e f = let below = ltb-true x y e in let same = eqb-true x y f in absurd (omega (arith, below, same))
    go true false e f = rw (e, f) refl
    go false true e f = rw (e, f) refl
    go false false e f = rw (e, f) refl

abbrev Local : Type 0
Local = Id LocalKey

abbrev pub same_id : Local → Local → Bool
same_id a b = nat_eq (place a) (place b)

abbrev pub by_place : Local → Local → Ordering
by_place a b = nat_cmp (place a) (place b)

by_place_total : IsTotalOrder by_place
by_place_total = on_total (λ (a : Local). place a) nat_cmp_total

ties : (a b : Local) → same_id a b ≡ eq_by_cmp by_place a b
ties a b = sym (eq_nat (place a) (place b))

same_id_laws : IsEquivalence same_id
same_id_laws = record {
  refl = λ a. nat_eq_equiv.refl (place a);
  symm = λ a b. nat_eq_equiv.symm (place a) (place b);
  congr = λ a b c. nat_eq_equiv.congr (place a) (place b) (place c);
}

once-distinct : (ids : List Local) → IsDistinct (eq_by_cmp by_place) ids → IsDistinct nat_eq (map place ids)
unfolding IsDistinct
once-distinct [] h = tt
once-distinct (a ∷ ids) h = (go ids h.0, once-distinct ids h.1)
  where
    go : (bs : List Local) → AllByRecursion (λ b. eq_by_cmp by_place a b ≡ false) bs → AllByRecursion (λ p. nat_eq (place a) p ≡ false) (map place bs)
    go [] k = tt
    go (b ∷ bs) k = (ties a b ∙ k.0, go bs k.1)

once-rising : (ids : List Local) → IsStrictlySortedBy by_place ids → IsStrictlySortedBy nat_cmp (map place ids)
unfolding IsStrictlySortedBy
once-rising [] h = tt
once-rising (a ∷ ids) h = (go ids h.0, once-rising ids h.1)
  where
    go : (bs : List Local) → AllByRecursion (λ b. by_place a b ≡ Less) bs → AllByRecursion (λ p. nat_cmp (place a) p ≡ Less) (map place bs)
    go [] k = tt
    go (b ∷ bs) k = (k.0, go bs k.1)

-- sorted, and with no neighbours alike
pub once : (old up new : List Local) → IsPermutation old up → IsSorted by_place up → new ≡ dedup same_id up → AreOnce (map place old) (map place new)
once old up new moved sorted is =
    let strict = subst (λ (ids : List Local). IsStrictlySortedBy by_place ids) (sym is) (IsStrictlySortedBy-dedup by_place_total ties up sorted) in
    record {
      same = λ x. (
        λ h. let f = from_map place new x h in
            subst (λ (p : ℕ). Contains (map place old) p) f.1.1 (contains_map place old f.0 (Contains-permutation up old f.0 (IsPermutation-sym old up moved) (Contains-from_dedup same_id up f.0 (subst (λ (ids : List Local). Contains ids f.0) is f.1.0)))),
        λ h. let f = from_map place old x h in
            let kept = Any-dedup same_id_laws up f.0 (Contains-permutation old up f.0 moved f.1.0) in
            let there : Contains (dedup same_id up) kept.1 = (kept.0, kept.2, kept.3) in
            let same : place kept.1 ≡ x = sym (eqb-true (place f.0) (place kept.1) kept.4) ∙ f.1.1 in
            subst (λ (p : ℕ). Contains (map place new) p) same (contains_map place new kept.1 (subst (λ (ids : List Local). Contains ids kept.1) (sym is) there)),
      );
      distinct = once-distinct new (IsDistinct-from_sorted by_place new strict);
      rising = once-rising new strict;
    }

-- the same locals
pub typed-same : (slots : List (Option (ValType ℕ))) (is_parameter : ℕ → Bool) (used more : List ℕ) (found : List (ℕ × ValType ℕ)) → ((x : ℕ) → Contains used x ↔ Contains more x) → AreTyped slots used is_parameter found → AreTyped slots more is_parameter found
typed-same slots is_parameter used more found same h = record {
  sound = λ k d low. let s = h.sound k d low in ((same _).0 s.0, s.1, s.2);
  complete = λ x v c free t. h.complete x v ((same x).1 c) free t;
}

-- ---- one more local, which isn't there yet

local_laws : IsEquivalence same_local
local_laws = record {
  refl = λ a. nat_eq_equiv.refl a.0;
  symm = λ a b. nat_eq_equiv.symm a.0 b.0;
  congr = λ a b c. nat_eq_equiv.congr a.0 b.0 c.0;
}

among_places : (x : ℕ) (t : DeclaredValType) (found : List (ℕ × DeclaredValType)) → list_any (same_local (x, t)) found ≡ list_any (nat_eq x) (map (λ (e : ℕ × ValType ℕ). e.0) (map typed found))
among_places x t [] = refl
among_places x t (e ∷ found) = ap (λ (b : Bool). nat_eq x e.0 || b) (among_places x t found)

pub new-distinct : (slots : List (Option (ValType ℕ))) (is_parameter : ℕ → Bool) (used : List ℕ) (x : ℕ) (t : DeclaredValType) (found : List (ℕ × DeclaredValType)) → AreTyped slots used is_parameter (map typed found) → list_any (nat_eq x) used ≡ false → IsDistinct same_local found → IsDistinct same_local (found ++ (x, t) ∷ [])
new-distinct slots is_parameter used x t found typed_so new h = IsDistinct-push local_laws found (x, t) h (go (list_any (nat_eq x) (map (λ (e : ℕ × ValType ℕ). e.0) (map typed found))) refl)
  where
    go : (b : Bool) → list_any (nat_eq x) (map (λ (e : ℕ × ValType ℕ). e.0) (map typed found)) ≡ b → list_any (same_local (x, t)) found ≡ false
    go false e = among_places x t found ∙ e
    go true e =
        let f = from_map (λ (e : ℕ × ValType ℕ). e.0) (map typed found) x (Contains-from_any (λ a b same. eqb-true a b same) x (map (λ (e : ℕ × ValType ℕ). e.0) (map typed found)) e) in
        let sound = All-contains (λ (e : ℕ × ValType ℕ). Contains used e.0 × (is_parameter e.0 ≡ false) × (item_at slots e.0 ≡ Some e.1)) (map typed found) f.0 typed_so.sound f.1.0 in
        let here : list_any (nat_eq x) used ≡ true = list_any-from_Contains nat_eq_equiv x used (subst (λ (p : ℕ). Contains used p) f.1.1 sound.0) in
        let wrong : true ≡ false = sym here ∙ new in
        absurd cc

pub none-distinct : (found : List (ℕ × DeclaredValType)) → found ≡ [] → IsDistinct same_local found
unfolding IsDistinct
none-distinct found is = subst (λ (es : List (ℕ × DeclaredValType)). IsDistinct same_local es) (sym is) (none-apart)
  where
    none-apart : IsDistinct same_local []
    none-apart = tt

pub none-typed : (slots : List (Option (ValType ℕ))) (is_parameter : ℕ → Bool) (found : List (ℕ × DeclaredValType)) → found ≡ [] → AreTyped slots [] is_parameter (map typed found)
none-typed slots is_parameter found is = subst (λ (es : List (ℕ × DeclaredValType)). AreTyped slots [] is_parameter (map typed es)) (sym is) (record { sound = λ k d low. absurd (omega arith); complete = λ x v used free t. let low = used.1 in absurd (omega (arith, low)) })

-- ---- the locals in their order

pub ordered_ids : {X E : Type 0} (view : X → List ℕ) (result : Result X E) (slots : List (Option (ValType ℕ))) (once : List ℕ) (is_parameter : ℕ → Bool) (found : List (ℕ × DeclaredValType)) (keys : List (ℕ × ℕ × ℕ)) → IfOk result (λ x. view x ≡ map (λ key. key.2) keys) → AreTyped slots once is_parameter (map typed found) → (order : AreInOrder found keys) → ((v w : DeclaredValType) → val_type v ≡ val_type w → order.lowest v ≡ order.lowest w) → IfOk result (λ x. (used parameters : List ℕ) → AreOnce used once → ((p : ℕ) → is_parameter p ≡ list_any (nat_eq p) parameters) → AreDeclared slots used parameters (view x))
ordered_ids view (Ok x) slots once is_parameter found keys are typed_so order alike = λ used parameters named taken.
    subst (λ (xs : List ℕ). AreDeclared slots used parameters xs) (sym are) (in_declared_order slots used parameters is_parameter taken found keys (typed-same slots is_parameter once used (map typed found) named.same typed_so) order alike)
ordered_ids view (Err e) slots once is_parameter found keys are typed_so order alike = tt
