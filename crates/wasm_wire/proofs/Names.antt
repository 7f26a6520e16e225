-- Names that differ, and their neighbours where they stand in order.
use Rattle.std.specs.Borrow.{Bor}
use Rattle.std.proofs.Common.{◌≡◌, ℕ, ◌+◌, ◌-◌, ◌<◌, Bool, false, true, List, [], ◌∷◌, length, get_or, map, not, refl, sym, ap, ◌∙◌, subst, arith}
use Rattle.std.specs.Prelude.{◌≢◌, IsPermutation, IsSorted}
use Rattle.std.specs.Bool.{Decides}
use Rattle.std.specs.Cmp.{IsTotalOrder}
use Rattle.std.specs.List.{AllAdjacentBelow, AllByRecursion, IsDistinct}
use Rattle.std.specs.List.Sorted.{IsStrictlySortedBy}
use Rattle.std.specs.Ordering.{eq_by_cmp, is_eq, is_lt, ordering_reverse}
use Rattle.std.specs.Str.{bytes_eq}
use Rattle.std.specs.declared.cmp.Ordering.{Ordering}
use Rattle.std.specs.declared.cmp.Ordering.TheVariants.{Less, Equal, Greater}
use Rattle.std.proofs.lemmas.Bool.{false≢true}
use Rattle.std.proofs.lemmas.Cmp.{nat_list_cmp_total, nat_list_eq_equiv, on_total}
use Rattle.std.proofs.lemmas.List.{get_or-map, get_or_default, length-map}
use Rattle.std.proofs.lemmas.List.Sorted.{IsPermutation-map, IsPermutation-sym, all_adjacent_more}
use Rattle.std.proofs.lemmas.Map.Keys.{IsDistinct-IsPermutation, IsDistinct-from_sorted, sorted_from_all_adjacent}
use Rattle.std.proofs.lemmas.Map.Made.{AllPairs-from_IsDistinct, IsDistinct-from_AllPairs}
use Rattle.std.proofs.lemmas.Map.Text.{is_eq-slice_cmp}
use Rattle.std.proofs.lemmas.Slice.Eq.{bytes_eq-Decides}
use Rattle.wasm_entries.specs.declared.record.RawExport.{RawExport}
use Rattle.wasm_entries.specs.Record.{Export, export_entry}
use Rattle.wasm_wire.specs.Keys.{AllDiffer}
use Rattle.wasm_wire.specs.Names.{NeighboursDiffer, by_bytes}
use Rattle.wasm_wire.specs.Rules.{NamesDiffer}

abbrev Text : Type 0
Text = Bor (List ℕ)

abbrev bytes_of : Text → List ℕ
bytes_of n = n.now

abbrev texts : List Text → List (List ℕ)
texts names = map bytes_of names

-- ---- the comparison of neighbours

abbrev DifferBelow : List Text → ℕ → Type 0
DifferBelow names i = AllAdjacentBelow (λ a b. a.now ≢ b.now) names i

-- a turn of the loop, in which two differ
pub neighbours_more : (names : List Text) (i : ℕ) (d e : Text) (alike : Bool) → 0 < i → i < length names
    → alike ≡ bytes_eq (get_or names (i - 1) d).now (get_or names i e).now → alike ≡ false → DifferBelow names i → DifferBelow names (i + 1)
neighbours_more names i d e alike some within tested not so_far = all_adjacent_more names (λ (a b : Text). a.now ≢ b.now) i some so_far
    (λ f same. false≢true (sym not ∙ tested ∙ (bytes_eq-Decides (get_or names (i - 1) d).now (get_or names i e).now).1
    (ap bytes_of (get_or_default names (i - 1) d f (omega arith)) ∙ same ∙ ap bytes_of (get_or_default names i f e within))))

-- ---- in order

by_bytes_total : IsTotalOrder by_bytes
by_bytes_total = on_total (λ (n : Text). n.now) nat_list_cmp_total

rising : (x y : Text) → is_lt (by_bytes y x) ≡ false → x.now ≢ y.now → by_bytes x y ≡ Less
rising x y h differ = go (by_bytes x y) refl
  where
    go : (o : Ordering) → by_bytes x y ≡ o → by_bytes x y ≡ Less
    go Less e = e
    go Equal e = absurd (differ ((bytes_eq-Decides x.now y.now).0 (sym (is_eq-slice_cmp x.now y.now) ∙ ap is_eq e)))
    go Greater e =
        let back : by_bytes y x ≡ Less = by_bytes_total.antisymm y x ∙ ap ordering_reverse e in
        absurd (false≢true (sym h ∙ ap is_lt back))

all_rising : (names : List Text) → IsSorted by_bytes names → NeighboursDiffer names → IsStrictlySortedBy by_bytes names
unfolding IsStrictlySortedBy
all_rising [] sorted differ = tt
all_rising (n ∷ names) sorted differ =
    let all = n ∷ names in
    sorted_from_all_adjacent by_bytes_total all n (λ k within.
    rising (get_or all k n) (get_or all (k + 1) n) (sorted k n (omega arith) within) (differ k n within))

distinct_texts : (names : List Text) → IsDistinct (eq_by_cmp by_bytes) names → IsDistinct bytes_eq (texts names)
unfolding IsDistinct
distinct_texts [] h = tt
distinct_texts (n ∷ names) h = (go names h.0, distinct_texts names h.1)
  where
    go : (os : List Text) → AllByRecursion (λ o. eq_by_cmp by_bytes n o ≡ false) os → AllByRecursion (λ o. bytes_eq n.now o ≡ false) (texts os)
    go [] k = tt
    go (o ∷ os) k = (sym (is_eq-slice_cmp n.now o.now) ∙ k.0, go os k.1)

-- ---- all of them

-- names that differ do so in any order
pub differ_moved : (old new : List (List ℕ)) → IsPermutation old new → AllDiffer old → AllDiffer new
differ_moved old new moved differ =
    let distinct = IsDistinct-from_AllPairs bytes_eq-Decides old differ in
    AllPairs-from_IsDistinct bytes_eq-Decides new (IsDistinct-IsPermutation bytes_eq nat_list_eq_equiv.symm old new moved distinct)

-- where neighbours differ in order, all do
by_neighbours : (names : List Text) → IsSorted by_bytes names → NeighboursDiffer names → AllDiffer (texts names)
by_neighbours names sorted differ =
    let distinct = distinct_texts names (IsDistinct-from_sorted by_bytes names (all_rising names sorted differ)) in
    AllPairs-from_IsDistinct bytes_eq-Decides (texts names) distinct

-- where all differ, neighbours do
neighbours_differ : (names : List Text) → AllDiffer (texts names) → NeighboursDiffer names
neighbours_differ names there k d within same =
    there k (k + 1) d.now (omega arith) (rw (length-map names bytes_of) within)
    (get_or-map bytes_of names k d d.now (omega arith) ∙ same ∙ sym (get_or-map bytes_of names (k + 1) d d.now within))

-- what the comparison of neighbours answered, and the names that it was given in order
pub told_by_neighbours : (old new given : List Text) (apart : Bool) → IsPermutation old new → IsSorted by_bytes new → given ≡ new
    → Decides apart (NeighboursDiffer given) → Decides apart (AllDiffer (texts old))
told_by_neighbours old new given apart moved sorted same decides =
    let there = IsPermutation-map bytes_of old new moved in (
      λ was. differ_moved (texts new) (texts old) (IsPermutation-sym (texts old) (texts new) there)
          (by_neighbours new sorted (subst NeighboursDiffer same (decides.0 was))),
      λ differ. decides.1 (subst NeighboursDiffer (sym same) (neighbours_differ new (differ_moved (texts old) (texts new) there differ))),
    )

-- ---- of exports

abbrev name_of : Export → List ℕ
name_of e = e.name

abbrev names_in : List RawExport → List (List ℕ)
names_in xs = map (λ e. e.name.now) xs

names_of : (xs : List RawExport) → map name_of (map export_entry xs) ≡ names_in xs
names_of [] = refl
names_of (x ∷ xs) = ap (λ (rest : List (List ℕ)). x.name.now ∷ rest) (names_of xs)

differ_by_names : (es : List Export) → AllDiffer (map name_of es) → NamesDiffer es
differ_by_names es h i j d less within same =
    h i j d.name less (rw (length-map es name_of) within)
    (get_or-map name_of es i d d.name (omega arith) ∙ same ∙ sym (get_or-map name_of es j d d.name within))

names_differ : (es : List Export) → NamesDiffer es → AllDiffer (map name_of es)
names_differ [] h i j d less within same = absurd (omega arith)
names_differ (e ∷ es) h i j d less within same =
    let all = e ∷ es in
    let far : j < length all = rw (sym (length-map all name_of)) within in
    h i j e less far (sym (get_or-map name_of all i e d (omega arith)) ∙ same ∙ get_or-map name_of all j e d far)

-- what was told of the names of exports

pub exports_differ : (xs : List RawExport) (differ : Bool) → Decides differ (AllDiffer (names_in xs)) → differ ≡ true
    → NamesDiffer (map export_entry xs)
exports_differ xs differ decides was = differ_by_names (map export_entry xs) (subst AllDiffer (sym (names_of xs)) (decides.0 was))

pub exports_alike : (xs : List RawExport) (differ : Bool) → Decides differ (AllDiffer (names_in xs)) → differ ≡ false
    → NamesDiffer (map export_entry xs) → ⊥
exports_alike xs differ decides was apart =
    false≢true (sym was ∙ decides.1 (subst AllDiffer (names_of xs) (names_differ (map export_entry xs) apart)))
