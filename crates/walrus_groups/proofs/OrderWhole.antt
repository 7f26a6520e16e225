-- Types in an order in which they may be written.
use Rattle.std.proofs.Common.{◌≡◌, ℕ, zero, suc, ◌+◌, ◌-◌, ◌<◌, ◌≤◌, ◌&&◌, ◌⊎◌, inl, inr, Bool, true, false, List, [], ◌∷◌, length, flat_map, Option, Some, refl, sym, ap, ap₂, ◌∙◌, ⊎_elim, subst, arith, IsTrue}
use Rattle.std.specs.Prelude.{Contains, ◌↔◌, nat_le, nat_lt}
use Rattle.std.specs.List.{list_all, range_with_len}
use Rattle.std.specs.Bool.{OnFalse}
use Rattle.std.proofs.lemmas.Bool.{false≢true, ltb-true, lt-ltb, leb-true, le-leb, ltb-false, OnFalse_from, and_parts as both, and_from as and_true, and_cases as one_of_two}
use Rattle.std.proofs.lemmas.List.Folds.{list_all-append}
use Rattle.walrus_base.specs.Arena.{item_at, entries}
use Rattle.walrus_base.specs.Types.{HeapType, OfHeap, Concrete, Exact, ValType, I32, I64, F32, F64, V128, Ref, StorageType, Unpacked, I8, I16, CompType, Func, Struct, Array, heap_names, val_heaps, storage_heaps, field_heaps, comp_heaps, comp_names}
use Rattle.walrus_base.proofs.Entries.{AllThere, entries_there}
use Rattle.walrus_base.specs.PlaceList.{has}
use Rattle.walrus_base.specs.TypeDef.{TypeDef}
use Rattle.walrus_base.specs.TypeSlots.{defs, last_of}
use Rattle.walrus_base.specs.Whole.{AreWhole}
use Rattle.walrus_base.specs.declared.types.Type.{«Type»}
use Rattle.walrus_base.proofs.Lists.{Contains-head, Contains-tail}
use Rattle.walrus_base.proofs.WholeLemmas.{last_row}
use Rattle.walrus_groups.specs.Indexed.{AreInOrder, IsOutOfOrder, LaterSupertype, LaterType}
use Rattle.walrus_groups.specs.Ordered.{heap_within, val_within, vals_within, storage_within, field_within, comp_within, all_below, is_ordered}
use Rattle.walrus_base.proofs.WrittenLists.{IsRow, group-row, has-row, entry_contained}
use Rattle.walrus_base.proofs.RangeBounds.{range_has as row_contains, range_in as contains_row}

-- ---- tests of lists

all_flat : {X A : Type 0} (p : A → Bool) (f : X → List A) (xs : List X) → list_all (λ x. list_all p (f x)) xs ≡ list_all p (flat_map f xs)
all_flat p f [] = refl
all_flat p f (x ∷ xs) = ap (λ t. list_all p (f x) && t) (all_flat p f xs) ∙ sym (list_all-append p (f x) (flat_map f xs))

all_same : {X : Type 0} (p q : X → Bool) (xs : List X) → ((x : X) → p x ≡ q x) → list_all p xs ≡ list_all q xs
all_same p q [] h = refl
all_same p q (x ∷ xs) h = ap₂ ◌&&◌ (h x) (all_same p q xs h)

with_true : (a : Bool) → a ≡ (a && true)
with_true true = refl
with_true false = refl

pub each_passes : {X : Type 0} (p : X → Bool) (xs : List X) (x : X) → list_all p xs ≡ true → Contains xs x → p x ≡ true
each_passes p [] x h (k, lt, e) = absurd (let l : k < 0 = lt in omega (arith, l))
each_passes {X} p (z ∷ xs) x h (zero, lt, e) = subst (λ (w : X). p w ≡ true) e (both (p z) (list_all p xs) h).0
each_passes p (z ∷ xs) x h (suc k, lt, e) = each_passes p xs x (both (p z) (list_all p xs) h).1 (k, (let l : suc k < suc (length xs) = lt in omega (arith, l)), e)

all_pass : {X : Type 0} (p : X → Bool) (xs : List X) → ((x : X) → Contains xs x → p x ≡ true) → list_all p xs ≡ true
all_pass p [] h = refl
all_pass p (x ∷ xs) h = and_true (p x) (list_all p xs) (h x (Contains-head x xs)) (all_pass p xs (λ y at. h y (Contains-tail x y xs at)))

-- where not all pass, one fails
one_fails : {X : Type 0} (p : X → Bool) (xs : List X) → list_all p xs ≡ false → (x : X) × (Contains xs x × (p x ≡ false))
one_fails p [] h = absurd (false≢true (sym h))
one_fails {X} p (z ∷ xs) h = ⊎_elim
    (λ (here : p z ≡ false). (z, (Contains-head z xs, here)))
    (λ (behind : list_all p xs ≡ false). let found = one_fails p xs behind in (found.0, (Contains-tail z found.0 xs found.1.0, found.1.1)))
    (one_of_two (p z) (list_all p xs) h)

-- ---- the names of a composite type

module _ (last : ℕ) where
  abbrev within : ℕ → Bool
  within u = nat_le u last

  names_heap : (h : HeapType ℕ) → heap_within last h ≡ list_all within (heap_names h)
  names_heap (OfHeap h) = refl
  names_heap (Concrete t) = with_true (nat_le t last)
  names_heap (Exact t) = with_true (nat_le t last)

  names_val : (v : ValType ℕ) → val_within last v ≡ list_all (heap_within last) (val_heaps v)
  names_val (Ref r) = with_true (heap_within last r.heap)
  names_val I32 = refl
  names_val I64 = refl
  names_val F32 = refl
  names_val F64 = refl
  names_val V128 = refl

  names_vals : (vs : List (ValType ℕ)) → vals_within last vs ≡ list_all (heap_within last) (flat_map val_heaps vs)
  names_vals vs = all_same (val_within last) (λ v. list_all (heap_within last) (val_heaps v)) vs names_val ∙ all_flat (heap_within last) val_heaps vs

  names_storage : (s : StorageType ℕ) → storage_within last s ≡ list_all (heap_within last) (storage_heaps s)
  names_storage (Unpacked v) = names_val v
  names_storage I8 = refl
  names_storage I16 = refl

  names_comp : (c : CompType ℕ) → comp_within last c ≡ list_all (heap_within last) (comp_heaps c)
  names_comp (Func params results) = ap₂ ◌&&◌ (names_vals params) (names_vals results) ∙ sym (list_all-append (heap_within last) (flat_map val_heaps params) (flat_map val_heaps results))
  names_comp (Struct fields) = all_same (field_within last) (λ f. list_all (heap_within last) (field_heaps f)) fields (λ f. names_storage f.storage) ∙ all_flat (heap_within last) field_heaps fields
  names_comp (Array element) = names_storage element.storage

  comp_names_within : (c : CompType ℕ) → comp_within last c ≡ list_all within (comp_names c)
  comp_names_within c = names_comp c ∙ all_same (heap_within last) (λ h. list_all within (heap_names h)) (comp_heaps c) names_heap ∙ all_flat within heap_names (comp_heaps c)

-- ---- the types

-- a type of a group that is this row, of which it is a member, at this place
ordered_type : (a n p : ℕ) (x : TypeDef) → x.group ≡ range_with_len a n → a ≤ p → p < a + n → is_ordered (p, x) ≡ true
    → ((u : ℕ) → Contains x.sub.supertypes u → u < p) × ((u : ℕ) → Contains (comp_names x.sub.comp) u → Contains x.group u ⊎ ((q : ℕ) → Contains x.group q → u < q))
ordered_type a zero p x row low high h = absurd (omega (arith, low, high))
ordered_type a (suc n) p x row low high h =
    let parts = both (all_below p x.sub.supertypes) (comp_within (last_of x.group p) x.sub.comp) h in
    let last : last_of x.group p ≡ a + n = ap (λ g. last_of g p) row ∙ last_row a n p in (
      λ u at. ltb-true u p (each_passes (λ u. nat_lt u p) x.sub.supertypes u parts.0 at),
      λ u at.
          let up_to : u ≤ last_of x.group p = leb-true u (last_of x.group p) (each_passes (within (last_of x.group p)) (comp_names x.sub.comp) u (sym (comp_names_within (last_of x.group p) x.sub.comp) ∙ parts.1) at) in
          by_test u (omega (arith, up_to, last)) (nat_lt u a) refl,
    )
  where
    by_test : (u : ℕ) → u < a + suc n → (t : Bool) → nat_lt u a ≡ t → Contains x.group u ⊎ ((q : ℕ) → Contains x.group q → u < q)
    by_test u most true e = inr (λ q at. let inside = contains_row a (suc n) q (subst (λ g. Contains g q) row at) in let from : a ≤ q = inside.0 in let under : u < a = ltb-true u a e in omega (arith, from, under))
    by_test u most false e = inl (subst (λ g. Contains g u) (sym row) (row_contains a (suc n) u (ltb-false u a e) most))

type_ordered : (a n p : ℕ) (x : TypeDef) → x.group ≡ range_with_len a n → a ≤ p → p < a + n → ((u : ℕ) → Contains x.sub.supertypes u → u < p)
    → ((u : ℕ) → Contains (comp_names x.sub.comp) u → Contains x.group u ⊎ ((q : ℕ) → Contains x.group q → u < q)) → is_ordered (p, x) ≡ true
type_ordered a zero p x row low high supers others = absurd (omega (arith, low, high))
type_ordered a (suc n) p x row low high supers others =
    let last : last_of x.group p ≡ a + n = ap (λ g. last_of g p) row ∙ last_row a n p in
    and_true (all_below p x.sub.supertypes) (comp_within (last_of x.group p) x.sub.comp)
    (all_pass (λ u. nat_lt u p) x.sub.supertypes (λ u at. lt-ltb u p (supers u at)))
    (comp_names_within (last_of x.group p) x.sub.comp
    ∙ all_pass (within (last_of x.group p)) (comp_names x.sub.comp) (λ u at. le-leb u (last_of x.group p) (⊎_elim
    (λ (own : Contains x.group u). let inside : u < a + suc n = (contains_row a (suc n) u (subst (λ g. Contains g u) row own)).1 in omega (arith, inside, last))
    (λ (before : (q : ℕ) → Contains x.group q → u < q). let under : u < p = before p (subst (λ g. Contains g p) (sym row) (row_contains a (suc n) p low high)) in omega (arith, under, last, high))
    (others u at))))

module _ (slots : List (Option TypeDef)) (whole : AreWhole slots) (rows : (t : ℕ) (x : TypeDef) → item_at slots t ≡ Some x → IsRow x.group) where
  -- the group of a type is a row with the type's place in it
  member_row : (t : ℕ) (x : TypeDef) → item_at slots t ≡ Some x → (a : ℕ) × ((n : ℕ) × ((x.group ≡ range_with_len a n) × ((a ≤ t) × (t < a + n))))
  member_row t x here =
      let row = rows t x here in
      (row.0, (row.1.0, (row.1.1, has-row row.0 row.1.0 t (ap (λ g. has g t) (sym row.1.1) ∙ whole.own t x here))))

  of_entry : (t : ℕ) (x : TypeDef) → item_at slots t ≡ Some x → list_all is_ordered (entries slots) ≡ true
      → ((u : ℕ) → Contains x.sub.supertypes u → u < t) × ((u : ℕ) → Contains (comp_names x.sub.comp) u → Contains x.group u ⊎ ((q : ℕ) → Contains x.group q → u < q))
  of_entry t x here h =
      let row = member_row t x here in
      ordered_type row.0 row.1.0 t x row.1.1.0 row.1.1.1.0 row.1.1.1.1 (each_passes is_ordered (entries slots) (t, x) h (entry_contained slots t x here))

  in_order : list_all is_ordered (entries slots) ≡ true → AreInOrder slots
  in_order h = record {
    supertypes = λ t u x here at. (of_entry t x here h).0 u at;
    others = λ t u x here at. (of_entry t x here h).1 u at;
  }

  all_ordered : AreInOrder slots → (es : List (ℕ × TypeDef)) → AllThere slots es → list_all is_ordered es ≡ true
  all_ordered order [] there = refl
  all_ordered order (e ∷ es) there =
      let row = member_row e.0 e.1 there.0 in
      and_true (is_ordered e) (list_all is_ordered es)
      (type_ordered row.0 row.1.0 e.0 e.1 row.1.1.0 row.1.1.1.0 row.1.1.1.1 (λ u at. order.supertypes e.0 u e.1 there.0 at) (λ u at. order.others e.0 u e.1 there.0 at))
      (all_ordered order es there.1)

  -- what isn't in order, of a type of a group that is this row
  row_out : (t a n : ℕ) (x : TypeDef) → item_at slots t ≡ Some x → x.group ≡ range_with_len a n → a ≤ t → t < a + n → is_ordered (t, x) ≡ false → IsOutOfOrder slots
  row_out t a zero x here row low high h = absurd (omega (arith, low, high))
  row_out t a (suc n) x here row low high h = ⊎_elim
      (λ (early : all_below t x.sub.supertypes ≡ false).
      let found = one_fails (λ u. nat_lt u t) x.sub.supertypes early in
      LaterSupertype t found.0 x here found.1.0 (λ before. false≢true (sym found.1.1 ∙ lt-ltb found.0 t before)))
      (λ (out : comp_within (last_of x.group t) x.sub.comp ≡ false).
      let last : last_of x.group t ≡ a + n = ap (λ g. last_of g t) row ∙ last_row a n t in
      let found = one_fails (within (last_of x.group t)) (comp_names x.sub.comp) (sym (comp_names_within (last_of x.group t) x.sub.comp) ∙ out) in
      let behind : found.0 ≤ a + n → ⊥ = λ up_to. false≢true (sym found.1.1 ∙ le-leb found.0 (last_of x.group t) (omega (arith, up_to, last))) in
      LaterType t found.0 x here found.1.0 (⊎_elim
      (λ (own : Contains x.group found.0). behind (let inside : found.0 < a + suc n = (contains_row a (suc n) found.0 (subst (λ g. Contains g found.0) row own)).1 in omega (arith, inside)))
      (λ (before : (q : ℕ) → Contains x.group q → found.0 < q). behind (let under : found.0 < t = before t (subst (λ g. Contains g t) (sym row) (row_contains a (suc n) t low high)) in omega (arith, under, high)))))
      (one_of_two (all_below t x.sub.supertypes) (comp_within (last_of x.group t) x.sub.comp) h)

  type_out : (t : ℕ) (x : TypeDef) → item_at slots t ≡ Some x → is_ordered (t, x) ≡ false → IsOutOfOrder slots
  type_out t x here h =
      let row = member_row t x here in
      row_out t row.0 row.1.0 x here row.1.1.0 row.1.1.1.0 row.1.1.1.1 h

  one_out : (es : List (ℕ × TypeDef)) → AllThere slots es → list_all is_ordered es ≡ false → IsOutOfOrder slots
  one_out [] there h = absurd (false≢true (sym h))
  one_out (e ∷ es) there h = ⊎_elim (type_out e.0 e.1 there.0) (one_out es there.1) (one_of_two (is_ordered e) (list_all is_ordered es) h)

pub told : (places : List (Option «Type»)) (r : Bool) → AreWhole (defs places) → r ≡ list_all is_ordered (entries (defs places)) → IsTrue r ↔ AreInOrder (defs places)
told places r whole is = (
  λ h. in_order (defs places) whole (group-row places) (sym is ∙ h),
  λ order. is ∙ all_ordered (defs places) whole (group-row places) order (entries (defs places)) (entries_there (defs places)),
)

pub told_out : (places : List (Option «Type»)) (r : Bool) → AreWhole (defs places) → r ≡ list_all is_ordered (entries (defs places)) → OnFalse r (IsOutOfOrder (defs places))
told_out places r whole is = OnFalse_from r (IsOutOfOrder (defs places)) (λ not. one_out (defs places) whole (group-row places) (entries (defs places)) (entries_there (defs places)) (sym is ∙ not))
