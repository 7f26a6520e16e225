-- Locals rank by rank stand in the order of declarations, where none of them is a reference.
use Rattle.std.proofs.Common.{◌≡◌, ℕ, zero, suc, ◌<◌, ◌≤◌, ◌⊎◌, inl, inr, Bool, true, false, List, [], ◌∷◌, ◌++◌, length, map, filter, Some, Result, Ok, Err, IfOk, refl, sym, ap, ◌∙◌, subst, arith}
use Rattle.std.specs.Prelude.{All, AllPairs, Contains, Option, nat_eq, slice_index_or}
use Rattle.std.specs.List.{list_any, AllByRecursion}
use Rattle.std.specs.List.Sorted.{IsStrictlySortedBy}
use Rattle.std.specs.Ordering.{nat_cmp}
use Rattle.std.specs.declared.cmp.Ordering.TheVariants.{Less}
use Rattle.std.proofs.lemmas.Bool.{cond_both, eqb-true}
use Rattle.std.proofs.lemmas.Bool.Decides.{eqb_tells}
use Rattle.std.proofs.lemmas.Cmp.{ranked}
use Rattle.std.proofs.lemmas.List.Elements.{All-append, All-cons, All-contains, All-contains_itself, All-filter, All-map, All-nil, Contains-append_cases, Contains-append_left, Contains-append_right, Contains-get_or, filter_passes}
use Rattle.std.proofs.lemmas.List.Kept.{AllPairs-cons, AllPairs-filter}
use Rattle.std.proofs.lemmas.Map.Keys.{sorted_head, sorted_tail}
use Rattle.walrus_base.specs.Arena.{item_at}
use Rattle.walrus_base.specs.Types.{ValType, I32, I64, F32, F64, V128, Ref}
use Rattle.walrus_base.specs.Value.{val_type}
use Rattle.walrus_base.specs.declared.value.ValType.{ValType as DeclaredValType}
use Rattle.walrus_functions.specs.DeclaredLocals.{rank, IsDeclared, GoesBefore, AreDeclared}
use Rattle.walrus_functions.specs.Declaring.{AreOnce, AreTyped, typed}
use Rattle.walrus_functions.specs.Ranked.{has_rank, of_rank, by_ranks}
use Rattle.walrus_functions.proofs.EntryLemmas as entries
use Rattle.walrus_functions.proofs.OnceLemmas.{typed-same}
use Rattle.walrus_functions.proofs.OrderLemmas.{contains_map, from_map}

abbrev Local : Type 0
Local = ℕ × DeclaredValType

abbrev rank_of : Local → ℕ
rank_of e = rank (val_type e.1)

abbrev first : Local → ℕ
first e = e.0

-- ---- what stands in these lists

in_filter : {X : Type 0} (p : X → Bool) (xs : List X) (x : X) → Contains xs x → p x ≡ true → Contains (filter p xs) x
in_filter p [] x (k, low, is) passes = absurd (omega (arith, low))
in_filter {X} p (y ∷ xs) x (zero, low, is) passes =
    let here : p y ≡ true = ap p is ∙ passes in
    let whole : filter p (y ∷ xs) ≡ y ∷ filter p xs = rw here refl in
    subst (λ (zs : List X). Contains zs x) (sym whole) (zero, omega arith, is)
in_filter {X} p (y ∷ xs) x (suc k, low, is) passes =
    let lower : k < length xs = omega (arith, low) in
    let rest = in_filter p xs x (k, lower, is) passes in
    cond_both (p y) (y ∷ filter p xs) (filter p xs) (λ (zs : List X). Contains zs x) (λ _. Contains-append_right (y ∷ []) (filter p xs) x rest) (λ _. rest)

from_rank : (r : ℕ) (found : List Local) (e : Local) → Contains (of_rank r found) e → Contains found e × (rank_of e ≡ r)
from_rank r found e c = (
  All-contains (Contains found) (of_rank r found) e (All-filter (has_rank r) (Contains found) found (All-contains_itself found)) c,
  eqb-true (rank_of e) r (All-contains (λ (x : Local). has_rank r x ≡ true) (of_rank r found) e (filter_passes (has_rank r) found) c),
)

from_ranks : (n : ℕ) (found : List Local) (e : Local) → Contains (by_ranks n found) e → Contains found e × (rank_of e < n)
from_ranks zero found e (k, low, is) = absurd (omega (arith, low))
from_ranks (suc n) found e c = go (from_ranks n found e) (Contains-append_cases (by_ranks n found) (of_rank n found) e c)
  where
    go : (Contains (by_ranks n found) e → Contains found e × (rank_of e < n)) → Contains (by_ranks n found) e ⊎ Contains (of_rank n found) e → Contains found e × (rank_of e < suc n)
    go below (inl b) = let h = below b in (h.0, omega (arith, h.1))
    go below (inr b) = let h = from_rank n found e b in (h.0, omega (arith, h.1))

in_ranks : (n : ℕ) (found : List Local) (e : Local) → Contains found e → rank_of e < n → Contains (by_ranks n found) e
in_ranks zero found e c low = absurd (omega (arith, low))
in_ranks (suc n) found e c low = go (in_ranks n found e c) (eqb_tells (rank_of e) n)
  where
    go : (rank_of e < n → Contains (by_ranks n found) e) → ((nat_eq (rank_of e) n ≡ true) × (rank_of e ≡ n)) ⊎ ((nat_eq (rank_of e) n ≡ false) × (rank_of e ≡ n → ⊥)) → Contains (by_ranks (suc n) found) e
    go below (inl same) = Contains-append_right (by_ranks n found) (of_rank n found) e (in_filter (has_rank n) found e c same.0)
    go below (inr apart) = let other = apart.1 in Contains-append_left (by_ranks n found) (of_rank n found) e (below (omega (arith, low, other)))

-- ---- pairs

pairs_append : {X : Type 0} (R : X → X → Type 0) (xs ys : List X) → AllPairs R xs → AllPairs R ys → ((x : X) → Contains xs x → All (R x) ys) → AllPairs R (xs ++ ys)
pairs_append R [] ys p q across = q
pairs_append R (x ∷ xs) ys p q across = AllPairs-cons R x (xs ++ ys)
    (All-append (R x) xs ys (λ k d low. p zero (suc k) d (omega arith) (omega (arith, low))) (across x (zero, omega arith, refl)))
    (pairs_append R xs ys (λ i j d less low. p (suc i) (suc j) d (omega (arith, less)) (omega (arith, low))) q (λ z c. across z (Contains-append_right (x ∷ []) xs z c)))

pairs_map : {X Y : Type 0} (f : X → Y) (R : Y → Y → Type 0) (xs : List X) → AllPairs (λ a b. R (f a) (f b)) xs → AllPairs R (map f xs)
pairs_map f R [] p = λ i j d less low. absurd (omega (arith, low))
pairs_map f R (x ∷ xs) p = AllPairs-cons R (f x) (map f xs)
    (All-map (R (f x)) f xs (λ k d low. p zero (suc k) d (omega arith) (omega (arith, low))))
    (pairs_map f R xs (λ i j d less low. p (suc i) (suc j) d (omega (arith, less)) (omega (arith, low))))

abbrev Below : Local → Local → Type 0
Below e f = e.0 < f.0

above : (x : ℕ) (es : List Local) → AllByRecursion (λ y. nat_cmp x y ≡ Less) (map first es) → All (λ (f : Local). x < f.0) es
above x [] h = All-nil (λ (f : Local). x < f.0)
above x (e ∷ es) h = All-cons (λ (f : Local). x < f.0) e es (ranked x e.0 _ (sym h.0)) (above x es h.1)

all_rise : (es : List Local) → IsStrictlySortedBy nat_cmp (map first es) → AllPairs Below es
all_rise [] h = λ i j d less low. absurd (omega (arith, low))
all_rise (e ∷ es) h = AllPairs-cons Below e es (above e.0 es (sorted_head nat_cmp e.0 (map first es) h)) (all_rise es (sorted_tail nat_cmp e.0 (map first es) h))

-- ---- ranks

-- the type of a rank
plain_type : ℕ → ValType ℕ
plain_type zero = I32
plain_type (suc zero) = I64
plain_type (suc (suc zero)) = F32
plain_type (suc (suc (suc zero))) = F64
plain_type (suc (suc (suc (suc n)))) = V128

of_its_rank : (v : ValType ℕ) → rank v < 5 → plain_type (rank v) ≡ v
unfolding plain_type
of_its_rank I32 low = refl
of_its_rank I64 low = refl
of_its_rank F32 low = refl
of_its_rank F64 low = refl
of_its_rank V128 low = refl
of_its_rank (Ref r) low = absurd (omega (arith, low))

-- types of one rank are the same, if they are no references
one_type : (v w : ValType ℕ) → rank v ≡ rank w → rank v < 5 → v ≡ w
one_type v w same low =
    let lower : rank w < 5 = subst (λ (n : ℕ). n < 5) same low in
    sym (of_its_rank v low) ∙ ap plain_type same ∙ of_its_rank w lower

module _ (slots : List (Option (ValType ℕ))) (used parameters : List ℕ) (is_parameter : ℕ → Bool) (are : (x : ℕ) → is_parameter x ≡ list_any (nat_eq x) parameters)
    (found : List Local) (all : AreTyped slots used is_parameter (map typed found)) (rising : IsStrictlySortedBy nat_cmp (map first found)) where
  abbrev Goes : Local → Local → Type 0
  Goes e f = GoesBefore slots used parameters e.0 f.0

  has_type : (e : Local) → Contains found e → item_at slots e.0 ≡ Some (val_type e.1)
  has_type e here = entries.has_type slots used parameters is_parameter are (map typed found) all e.0 (val_type e.1) (contains_map typed found e here)

  of_lower_rank : (e f : Local) → Contains found e → Contains found f → rank_of e < rank_of f → Goes e f
  of_lower_rank e f c d low = (val_type e.1, (val_type f.1, (has_type e c, has_type f d, inl (inl low))))

  of_one_rank : (e f : Local) → Contains found e → Contains found f → rank_of e ≡ rank_of f → rank_of e < 5 → e.0 < f.0 → Goes e f
  of_one_rank e f c d same few low = (val_type e.1, (val_type f.1, (has_type e c, has_type f d, inr (one_type (val_type e.1) (val_type f.1) same few, low))))

  rank_rises : (r : ℕ) → r < 5 → AllPairs Goes (of_rank r found)
  rank_rises r few i j d less low =
      let es = of_rank r found in
      let upper : i < length es = omega (arith, less, low) in
      let e = slice_index_or es i d in
      let f = slice_index_or es j d in
      let a = from_rank r found e (Contains-get_or es i d upper) in
      let b = from_rank r found f (Contains-get_or es j d low) in
      let under : rank_of e < 5 = subst (λ (n : ℕ). n < 5) (sym a.1) few in
      of_one_rank e f a.0 b.0 (a.1 ∙ sym b.1) under (AllPairs-filter Below (has_rank r) found (all_rise found rising) i j d less low)

  ranks_rise : (n : ℕ) → n ≤ 5 → AllPairs Goes (by_ranks n found)
  ranks_rise zero few = λ i j d less low. absurd (omega (arith, low))
  ranks_rise (suc n) few = pairs_append Goes (by_ranks n found) (of_rank n found) (ranks_rise n (omega (arith, few))) (rank_rises n (omega (arith, few)))
      (λ e c k d low. let a = from_ranks n found e c in
      let f = slice_index_or (of_rank n found) k d in
      let b = from_rank n found f (Contains-get_or (of_rank n found) k d low) in
      let lower : rank_of e < rank_of f = omega (arith, a.1, b.1) in
      of_lower_rank e f a.0 b.0 lower)

  by_ranks_declared : (n : ℕ) → n ≤ 5 → All (λ (e : Local). rank_of e < n) found → AreDeclared slots used parameters (map first (by_ranks n found))
  by_ranks_declared n few below = record {
    which = λ x. (
      λ among. let f = from_map first (by_ranks n found) x among in
          let here = from_ranks n found f.0 f.1.0 in
          subst (λ (y : ℕ). IsDeclared slots used parameters y) f.1.1 (entries.is_declared slots used parameters is_parameter are (map typed found) all f.0.0 (val_type f.0.1) (contains_map typed found f.0 here.0)),
      λ d. let f = from_map typed found (x, d.ty) (entries.entry_of slots used parameters is_parameter are (map typed found) all x d.ty d d.typed) in
          let low = All-contains (λ (e : Local). rank_of e < n) found f.0 below f.1.0 in
          subst (λ (y : ℕ). Contains (map first (by_ranks n found)) y) (ap (λ (p : ℕ × ValType ℕ). p.0) f.1.1) (contains_map first (by_ranks n found) f.0 (in_ranks n found f.0 f.1.0 low)),
    );
    sorted = pairs_map first (GoesBefore slots used parameters) (by_ranks n found) (ranks_rise n few);
  }

pub ranked_ids : {X E : Type 0} (view : X → List ℕ) (result : Result X E) (slots : List (Option (ValType ℕ))) (once : List ℕ) (is_parameter : ℕ → Bool) (found : List Local) (n : ℕ) → IfOk result (λ x. view x ≡ map first (by_ranks n found)) → AreTyped slots once is_parameter (map typed found) → IsStrictlySortedBy nat_cmp (map first found) → n ≤ 5 → All (λ (e : Local). rank_of e < n) found → IfOk result (λ x. (used parameters : List ℕ) → AreOnce used once → ((p : ℕ) → is_parameter p ≡ list_any (nat_eq p) parameters) → AreDeclared slots used parameters (view x))
ranked_ids view (Ok x) slots once is_parameter found n are typed_so rising few below = λ used parameters named taken.
    subst (λ (xs : List ℕ). AreDeclared slots used parameters xs) (sym are) (by_ranks_declared slots used parameters is_parameter taken found (typed-same slots is_parameter once used (map typed found) named.same typed_so) rising n few below)
ranked_ids view (Err e) slots once is_parameter found n are typed_so rising few below = tt
