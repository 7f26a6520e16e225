-- Locals that keep their indices are declared in their order.
use Rattle.std.proofs.Common.{◌≡◌, ℕ, zero, suc, ◌+◌, ◌-◌, ◌<◌, ◌≤◌, ◌⊎◌, inl, inr, Bool, true, false, List, [], ◌∷◌, ◌++◌, length, map, get_or, take, drop, Option, Some, None, refl, sym, ap, ap₂, ◌∙◌, subst, arith}
use Rattle.std.specs.Prelude.{AllPairs, Contains, flat_map, nat_eq, nat_le, nat_lt, option_map, unwrap_or, if◌then◌else◌}
use Rattle.std.specs.List.{AllByRecursion, IsDistinct, list_all, list_any, range_with_len}
use Rattle.std.proofs.lemmas.Bool.{cases_lt, leb-true, ltb-true, ne_eqb, and_parts}
use Rattle.std.proofs.lemmas.Bool.Decides.{eqb_tells}
use Rattle.std.proofs.lemmas.List.{take-append-drop}
use Rattle.std.proofs.lemmas.List.FromFn.{length-range_with_len, get_or-range_with_len}
use Rattle.walrus_base.specs.Arena.{item_at}
use Rattle.walrus_base.specs.Types.{ValType, I32, I64, F32, F64, V128, Ref}
use Rattle.walrus_base.specs.Operators.{Arg, Index, Label, Local, Number, Count, Byte, S32, S64, Bits32, Bits64, Value, Heap, Block, Access, Op, arg_locals, op_locals, locals_of}
use Rattle.walrus_base.specs.Shape.{place_in}
use Rattle.walrus_bodies.specs.Blocks.{are_nested}
use Rattle.walrus_bodies.specs.Classes.{is_plain}
use Rattle.walrus_bodies.specs.Locals.{AreMarked}
use Rattle.walrus_bodies.specs.Plain.{are_plain, is_plain_arg, is_plain_op}
use Rattle.walrus_functions.specs.DeclaredLocals.{rank, AreDeclared, GoesBefore, IsDeclared, TypeGoesBefore}
use Rattle.walrus_functions.specs.Kept.{KeepsIndices, rank_at}
use Rattle.walrus_functions.proofs.AmongLemmas.{among, tested}
use Rattle.walrus_base.proofs.RangeBounds.{range_has as contains_at, range_in as bounds_of}
use Rattle.walrus_base.proofs.Indexed.{less_or_same as one_of}

-- ---- one more local

module _ (slots : List (Option (ValType ℕ))) (flags : List Bool) (first params : ℕ) where
  pub kept_none : KeepsIndices slots flags first params params
  kept_none = record {
    within = omega arith;
    used = λ i from low. absurd (omega (arith, from, low));
    low = λ i from low. absurd (omega (arith, from, low));
    rising = λ i j from below low. absurd (omega (arith, from, below, low));
  }

  module _ (count : ℕ) (k : KeepsIndices slots flags first params count) (flag : get_or flags count false ≡ true) (r : ℕ) (here : rank_at slots (first + count) ≡ r) (small : r < 5) where
    pub kept_more : ((i : ℕ) → params ≤ i → i < count → rank_at slots (first + i) ≤ r) → KeepsIndices slots flags first params (count + 1)
    kept_more highest = record {
      within = let w = k.within in omega (arith, w);
      used = λ i from low. elim (one_of i count low) as (λ _. get_or flags i false ≡ true) [
        | inl h ↦ k.used i from h
        | inr e ↦ ap (λ (n : ℕ). get_or flags n false) e ∙ flag
      ];
      low = λ i from low. elim (one_of i count low) as (λ _. rank_at slots (first + i) < 5) [
        | inl h ↦ k.low i from h
        | inr e ↦ subst (λ (n : ℕ). rank_at slots (first + n) < 5) (sym e) (omega (arith, here, small))
      ];
      rising = λ i j from below low. elim (one_of j count low) as (λ _. rank_at slots (first + i) ≤ rank_at slots (first + j)) [
        | inl h ↦ k.rising i j from below h
        | inr e ↦ subst (λ (n : ℕ). rank_at slots (first + i) ≤ rank_at slots (first + n)) (sym e) (let h = highest i from (omega (arith, below, e)) in omega (arith, h, here))
      ];
    }

pub highest_more : (slots : List (Option (ValType ℕ))) (first params count r : ℕ) → rank_at slots (first + count) ≡ r → ((i : ℕ) → params ≤ i → i < count → rank_at slots (first + i) ≤ r) → (i : ℕ) → params ≤ i → i < count + 1 → rank_at slots (first + i) ≤ r
highest_more slots first params count r here highest i from low = elim (one_of i count low) as (λ _. rank_at slots (first + i) ≤ r) [
  | inl h ↦ highest i from h
  | inr e ↦ subst (λ (n : ℕ). rank_at slots (first + n) ≤ r) (sym e) (omega (arith, here))
]

-- ---- ranges

self_eq : (n : ℕ) → nat_eq n n ≡ true
self_eq n = elim (eqb_tells n n) as (λ _. nat_eq n n ≡ true) [
  | inl h ↦ h.0
  | inr h ↦ absurd (h.1 refl)
]

-- the place of a number in a range
pub place_range : (a n k m : ℕ) → m ≡ a + k → k < n → place_in (range_with_len a n) m ≡ Some k
place_range a zero k m e low = absurd (omega (arith, low))
place_range a (suc n) zero m e low =
    let p : a ≡ m = omega (arith, e) in
    subst (λ (u : ℕ). place_in (range_with_len a (suc n)) u ≡ Some 0) p (ap (λ (b : Bool). if b then Some 0 else option_map suc (place_in (range_with_len (a + 1) n) a)) (self_eq a))
place_range a (suc n) (suc k) m e low =
    let differs : nat_eq a m ≡ false = ne_eqb a m (λ h. omega (arith, e, h)) in
    ap (λ (b : Bool). if b then Some 0 else option_map suc (place_in (range_with_len (a + 1) n) m)) differs
    ∙ ap (option_map suc) (place_range (a + 1) n k m (omega (arith, e)) (omega (arith, low)))

pub none_lower : (a b n : ℕ) → a < b → AllByRecursion (λ y. nat_eq a y ≡ false) (range_with_len b n)
none_lower a b zero low = tt
none_lower a b (suc n) low = (ne_eqb a b (λ h. omega (arith, low, h)), none_lower a (b + 1) n (omega (arith, low)))

-- numbers of a range differ
pub distinct : (a n : ℕ) → IsDistinct nat_eq (range_with_len a n)
unfolding IsDistinct
distinct a zero = tt
distinct a (suc n) = (none_lower a (a + 1) n (omega arith), distinct (a + 1) n)

-- a range in two parts
pub take_range : (a n k : ℕ) → k ≤ n → take k (range_with_len a n) ≡ range_with_len a k
take_range a n zero le = refl
take_range a zero (suc k) le = absurd (omega (arith, le))
take_range a (suc n) (suc k) le = ap (λ (xs : List ℕ). a ∷ xs) (take_range (a + 1) n k (omega (arith, le)))

pub drop_range : (a n k : ℕ) → k ≤ n → drop k (range_with_len a n) ≡ range_with_len (a + k) (n - k)
drop_range a n zero le = let one : a ≡ a + 0 = omega arith in let two : n ≡ n - 0 = omega arith in ap₂ range_with_len one two
drop_range a zero (suc k) le = absurd (omega (arith, le))
drop_range a (suc n) (suc k) le =
    let one : a + 1 + k ≡ a + suc k = omega arith in
    let two : n - k ≡ suc n - suc k = omega arith in
    drop_range (a + 1) n k (omega (arith, le)) ∙ ap₂ range_with_len one two

pub whole : (a n k : ℕ) → k ≤ n → range_with_len a k ++ range_with_len (a + k) (n - k) ≡ range_with_len a n
whole a n k le = ap₂ ◌++◌ (sym (take_range a n k le)) (sym (drop_range a n k le)) ∙ take-append-drop k (range_with_len a n)

-- ---- types of low rank

abbrev of_rank : ℕ → ValType ℕ
of_rank zero = I32
of_rank (suc zero) = I64
of_rank (suc (suc zero)) = F32
of_rank (suc (suc (suc zero))) = F64
of_rank (suc (suc (suc (suc n)))) = V128

one_type : (v : ValType ℕ) → rank v < 5 → of_rank (rank v) ≡ v
one_type I32 low = refl
one_type I64 low = refl
one_type F32 low = refl
one_type F64 low = refl
one_type V128 low = refl
one_type (Ref r) low = absurd (omega (arith, low))

same_type : (v w : ValType ℕ) → rank v < 5 → rank v ≡ rank w → v ≡ w
same_type v w low same = sym (one_type v low) ∙ ap of_rank same ∙ one_type w (omega (arith, low, same))

pub typed_by : (o : Option (ValType ℕ)) → unwrap_or (option_map rank o) 5 < 5 → (v : ValType ℕ) × ((o ≡ Some v) × (rank v ≡ unwrap_or (option_map rank o) 5))
typed_by None low = absurd (omega (arith, low))
typed_by (Some v) low = (v, (refl, refl))

-- ---- flags by places

pub flagged : (flags : List Bool) (i : ℕ) → get_or flags i false ≡ true → i < length flags
flagged [] i h = absurd cc
flagged (b ∷ bs) zero h = omega arith
flagged (b ∷ bs) (suc i) h = let low = flagged bs i h in omega (arith, low)

each_flag : (flags : List Bool) (first : ℕ) (f : ℕ → Bool) → ((i : ℕ) → i < length flags → get_or flags i false ≡ f (first + i)) → flags ≡ map f (range_with_len first (length flags))
each_flag [] first f h = refl
each_flag (b ∷ bs) first f h =
    let here : first + 0 ≡ first = omega arith in
    ap₂ (λ (c : Bool) (cs : List Bool). c ∷ cs) (h 0 (omega arith) ∙ ap f here)
    (each_flag bs (first + 1) f (λ i low. let on : first + suc i ≡ first + 1 + i = omega arith in h (suc i) (omega (arith, low)) ∙ ap f on))

same_bool : (a b : Bool) → (a ≡ true → b ≡ true) → (b ≡ true → a ≡ true) → a ≡ b
same_bool true b there back = sym (there refl)
same_bool false true there back = back refl
same_bool false false there back = refl

module _ (flags : List Bool) (used : List ℕ) (first : ℕ) (marked : AreMarked first flags used) where
  pub flags_are : flags ≡ map (λ x. list_any (nat_eq x) used) (range_with_len first (length flags))
  flags_are = each_flag flags first (λ x. list_any (nat_eq x) used) (λ i low.
      let back : (first + i) - first ≡ i = omega arith in
      same_bool (get_or flags i false) (list_any (nat_eq (first + i)) used)
      (λ h. tested (first + i) used ((marked (first + i)).1 (omega arith, ap (λ (n : ℕ). get_or flags n false) back ∙ h)))
      (λ h. sym (ap (λ (n : ℕ). get_or flags n false) back) ∙ ((marked (first + i)).0 (among (first + i) used h)).1))

  -- ---- the locals that are declared

  module _ (slots : List (Option (ValType ℕ))) (params count : ℕ) (many : length flags ≡ count) (k : KeepsIndices slots flags first params count) where
    abbrev args : List ℕ
    args = range_with_len first params

    abbrev order : List ℕ
    order = range_with_len (first + params) (count - params)

    behind : (x : ℕ) → first + params ≤ x → x < first + count → IsDeclared slots used args x
    behind x low high =
        let within = k.within in
        let i = x - first in
        let back : first + (x - first) ≡ x = omega (arith, low) in
        let from : params ≤ x - first = omega (arith, low) in
        let below : x - first < count = omega (arith, low, high) in
        let t = typed_by (item_at slots (first + (x - first))) (k.low (x - first) from below) in
        record {
          is_used = (marked x).1 (omega (arith, low), k.used (x - first) from below);
          no_parameter = λ c. let b = bounds_of first params x c in omega (arith, b.1, low);
          ty = t.0;
          typed = ap (item_at slots) (sym back) ∙ t.1.0;
        }

    stands : (x : ℕ) → IsDeclared slots used args x → Contains order x
    stands x d =
        let within = k.within in
        let m = (marked x).0 d.is_used in
        let low = flagged flags (x - first) m.1 in
        let past : first + params ≤ x = elim (cases_lt x (first + params)) as (λ _. first + params ≤ x) [
          | inl h ↦ absurd (d.no_parameter (contains_at first params x m.0 h))
          | inr h ↦ h
        ] in
        contains_at (first + params) (count - params) x past (omega (arith, past, low, many, within, m.0))

    goes : (i j : ℕ) → params ≤ i → i < j → j < count → GoesBefore slots used args (first + i) (first + j)
    goes i j from before below =
        let inside : i < count = omega (arith, before, below) in
        let later : params ≤ j = omega (arith, before, from) in
        let v = typed_by (item_at slots (first + i)) (k.low i from inside) in
        let w = typed_by (item_at slots (first + j)) (k.low j later below) in
        let rises = k.rising i j from before below in
        let small = k.low i from inside in
        let less : first + i < first + j = omega (arith, before) in (
          v.0,
          (
            w.0,
            (
              v.1.0,
              w.1.0,
              elim (one_of (rank v.0) (rank w.0) (omega (arith, rises, v.1.1, w.1.1))) as (λ _. TypeGoesBefore slots used args v.0 w.0 ⊎ ((v.0 ≡ w.0) × (first + i < first + j))) [
                | inl h ↦ inl (inl h)
                | inr e ↦ inr (same_type v.0 w.0 (omega (arith, small, v.1.1)) e, less)
              ],
            ),
          ),
        )

    sorted : AllPairs (GoesBefore slots used args) order
    sorted i j d before below =
        let within = k.within in
        let size = length-range_with_len (first + params) (count - params) in
        let high : j < count - params = omega (arith, below, size) in
        let inside : i < count - params = omega (arith, before, high) in
        let one : first + (params + i) ≡ get_or order i d = let at = get_or-range_with_len (first + params) (count - params) i d inside in omega (arith, at) in
        let two : first + (params + j) ≡ get_or order j d = let at = get_or-range_with_len (first + params) (count - params) j d high in omega (arith, at) in
        let from : params ≤ params + i = omega arith in
        let order_of : params + i < params + j = omega (arith, before) in
        let under : params + j < count = omega (arith, high, within) in
        subst (λ (y : ℕ). GoesBefore slots used args (get_or order i d) y) two
        (subst (λ (x : ℕ). GoesBefore slots used args x (first + (params + j))) one (goes (params + i) (params + j) from order_of under))

    pub declared : AreDeclared slots used args order
    declared = record {
      which = λ x. (λ c. let b = bounds_of (first + params) (count - params) x c in let within = k.within in behind x b.0 (omega (arith, b.1, within)), stands x);
      sorted = sorted;
    }

-- ---- no locals

no_local : (first : ℕ) (a : Arg) → is_plain_arg first 0 a ≡ true → arg_locals a ≡ []
no_local first (Index x) plain = refl
no_local first (Local n) plain =
    let p = and_parts (nat_le first n) (nat_lt n (first + 0)) plain in
    let low = leb-true first n p.0 in
    let high = ltb-true n (first + 0) p.1 in
    absurd (omega (arith, low, high))
no_local first (Label n) plain = refl
no_local first (Number n) plain = refl
no_local first (Count n) plain = refl
no_local first (Byte n) plain = refl
no_local first (S32 z) plain = refl
no_local first (S64 z) plain = refl
no_local first (Bits32 n) plain = refl
no_local first (Bits64 n) plain = refl
no_local first (Value v) plain = refl
no_local first (Heap h) plain = refl
no_local first (Block b) plain = refl
no_local first (Access flags memory offset) plain = refl

none_of : {A : Type 0} (f : A → List ℕ) (test : A → Bool) → ((a : A) → test a ≡ true → f a ≡ []) → (xs : List A) → list_all test xs ≡ true → flat_map f xs ≡ []
none_of f test none [] all = refl
none_of f test none (x ∷ xs) all =
    let p = and_parts (test x) (list_all test xs) all in
    ap (λ (ns : List ℕ). ns ++ flat_map f xs) (none x p.0) ∙ none_of f test none xs p.1

pub no_locals : (first : ℕ) (ops : List Op) → are_plain first 0 ops ≡ true → locals_of ops ≡ []
no_locals first ops plain =
    none_of op_locals (is_plain_op first 0)
    (λ o one. none_of arg_locals (is_plain_arg first 0) (no_local first) o.args (and_parts (is_plain o.op) (list_all (is_plain_arg first 0) o.args) one).1)
    ops (and_parts (list_all (is_plain_op first 0) ops) (are_nested ops) plain).0
