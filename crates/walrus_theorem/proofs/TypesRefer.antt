-- What types that keep the rules name.
use Rattle.std.proofs.Common.{◌≡◌, ℕ, suc, ◌+◌, ◌<◌, List, [], ◌∷◌, ◌++◌, length, map, get_or, take, sym, subst, arith}
use Rattle.std.specs.Prelude.{Some, All, slice_get, flat_map}
use Rattle.std.specs.List.{AllByRecursion}
use Rattle.std.proofs.lemmas.List.Elements.{All-append, All-from_recursion, recursion_from_All}
use Rattle.wasm_forms.specs.declared.types.RawHeap.{RawHeap}
use Rattle.wasm_forms.specs.declared.types.RawHeap.TheVariants as heaps
use Rattle.wasm_forms.specs.declared.types.RawVal.{RawVal}
use Rattle.wasm_forms.specs.declared.types.RawVal.TheVariants as vals
use Rattle.wasm_entries.specs.declared.record.RawStorage.{RawStorage}
use Rattle.wasm_entries.specs.declared.record.RawStorage.TheVariants as storages
use Rattle.wasm_entries.specs.declared.record.RawFieldType.{RawFieldType}
use Rattle.wasm_entries.specs.Record.{Comp, Function, Struct, Array, Sub, Group}
use Rattle.wasm_wire.specs.Indices.{HeapHolds, ValueHolds, StorageHolds, FieldHolds, CompHolds, SubRefers, GroupRefers, TypesRefer}
use Rattle.walrus_base.specs.Types.{HeapType, ValType, CompType, Func, heap_names, val_names, val_heaps, storage_heaps, field_heaps, comp_names}
use Rattle.walrus_base.specs.Types as types
use Rattle.walrus_code.specs.FromRaw.{heap_of, val_of}
use Rattle.walrus_base.specs.TypeDef.{TypeDef, type_params}
use Rattle.walrus_bodies.proofs.LawNamed.{each_append}
use Rattle.walrus_groups.specs.Groups.{storage_of, field_of, comp_of, sub_of, NamesBelow, AreDeclared}
use Rattle.walrus_groups.proofs.TypeLists.{count, count_more, IsMember}
use Rattle.walrus_base.proofs.Standing.{got_in}
use Rattle.walrus_theorem.proofs.TextShaped.{all_at}
use Rattle.walrus_bodies.proofs.Lists.{all_parts, all_flat, all_unflat, all_itself, all_apart}

-- ---- what a type names

module _ (end : ℕ) where
  abbrev Below : ℕ → Type 0
  Below t = t < end

  abbrev HeapBelow : HeapType ℕ → Type 0
  HeapBelow h = AllByRecursion Below (heap_names h)

  abbrev HeapsBelow : List (HeapType ℕ) → Type 0
  HeapsBelow hs = AllByRecursion HeapBelow hs

  heap_below : (h : RawHeap) → HeapHolds end h → HeapBelow (heap_of h)
  heap_below (heaps.Index t) a = (a, tt)
  heap_below (heaps.Abstract b) a = tt

  heap_holds : (h : RawHeap) → HeapBelow (heap_of h) → HeapHolds end h
  heap_holds (heaps.Index t) a = a.0
  heap_holds (heaps.Abstract b) a = tt

  value_below : (v : RawVal) → ValueHolds end v → HeapsBelow (val_heaps (val_of v))
  value_below (vals.Ref r) a = (heap_below r.heap a, tt)
  value_below vals.I32 a = tt
  value_below vals.I64 a = tt
  value_below vals.F32 a = tt
  value_below vals.F64 a = tt
  value_below vals.V128 a = tt

  value_holds : (v : RawVal) → HeapsBelow (val_heaps (val_of v)) → ValueHolds end v
  value_holds (vals.Ref r) a = heap_holds r.heap a.0
  value_holds vals.I32 a = tt
  value_holds vals.I64 a = tt
  value_holds vals.F32 a = tt
  value_holds vals.F64 a = tt
  value_holds vals.V128 a = tt

  storage_below : (s : RawStorage) → StorageHolds end s → HeapsBelow (storage_heaps (storage_of s))
  storage_below (storages.Val v) a = value_below v a
  storage_below storages.I8 a = tt
  storage_below storages.I16 a = tt

  storage_holds : (s : RawStorage) → HeapsBelow (storage_heaps (storage_of s)) → StorageHolds end s
  storage_holds (storages.Val v) a = value_holds v a
  storage_holds storages.I8 a = tt
  storage_holds storages.I16 a = tt

  field_below : (f : RawFieldType) → FieldHolds end f → HeapsBelow (field_heaps (field_of f))
  field_below f a = storage_below f.storage a

  field_holds : (f : RawFieldType) → HeapsBelow (field_heaps (field_of f)) → FieldHolds end f
  field_holds f a = storage_holds f.storage a

  values_below : (vs : List RawVal) → All (ValueHolds end) vs → HeapsBelow (flat_map val_heaps (map val_of vs))
  values_below vs a = all_flat (ValueHolds end) HeapBelow val_of val_heaps value_below vs (recursion_from_All (ValueHolds end) vs a)

  values_hold : (vs : List RawVal) → HeapsBelow (flat_map val_heaps (map val_of vs)) → All (ValueHolds end) vs
  values_hold vs a = All-from_recursion (ValueHolds end) vs (all_unflat (ValueHolds end) HeapBelow val_of val_heaps value_holds vs a)

  names_below : (hs : List (HeapType ℕ)) → HeapsBelow hs → All Below (flat_map heap_names hs)
  names_below hs a = All-from_recursion Below (flat_map heap_names hs) (all_itself Below heap_names hs a)

  heaps_below : (hs : List (HeapType ℕ)) → All Below (flat_map heap_names hs) → HeapsBelow hs
  heaps_below hs a = all_apart Below heap_names hs (recursion_from_All Below (flat_map heap_names hs) a)

  -- what is named stands before this index
  pub comp_below : (c : Comp) → CompHolds end c → All (λ t. t < end) (comp_names (comp_of c))
  comp_below (Function t) a =
      names_below (flat_map val_heaps (map val_of t.params) ++ flat_map val_heaps (map val_of t.results))
      (each_append HeapBelow (flat_map val_heaps (map val_of t.params)) (flat_map val_heaps (map val_of t.results)) (values_below t.params a.0) (values_below t.results a.1))
  comp_below (Struct fields) a = names_below (flat_map field_heaps (map field_of fields)) (all_flat (FieldHolds end) HeapBelow field_of field_heaps field_below fields (recursion_from_All (FieldHolds end) fields a))
  comp_below (Array field) a = names_below (field_heaps (field_of field)) (field_below field a)

  -- and back
  pub comp_holds : (c : Comp) → All (λ t. t < end) (comp_names (comp_of c)) → CompHolds end c
  comp_holds (Function t) a =
      let p = all_parts HeapBelow (flat_map val_heaps (map val_of t.params)) (flat_map val_heaps (map val_of t.results)) (heaps_below (flat_map val_heaps (map val_of t.params) ++ flat_map val_heaps (map val_of t.results)) a) in
      (values_hold t.params p.0, values_hold t.results p.1)
  comp_holds (Struct fields) a = All-from_recursion (FieldHolds end) fields (all_unflat (FieldHolds end) HeapBelow field_of field_heaps field_holds fields (heaps_below (flat_map field_heaps (map field_of fields)) a))
  comp_holds (Array field) a = field_holds field (heaps_below (field_heaps (field_of field)) a)

  -- so is what a parameter names
  pub params_below : (c : CompType ℕ) → All (λ t. t < end) (comp_names c) → (k : ℕ) (v : ValType ℕ) → slice_get (type_params c) k ≡ Some v → All (λ t. t < end) (val_names v)
  params_below (Func params results) a k v e =
      let p = all_parts HeapBelow (flat_map val_heaps params) (flat_map val_heaps results) (heaps_below (flat_map val_heaps params ++ flat_map val_heaps results) a) in
      names_below (val_heaps v) (all_at (λ w. HeapsBelow (val_heaps w)) params k v (all_apart HeapBelow val_heaps params p.0) e)
  params_below (types.Struct fields) a k v e = cc
  params_below (types.Array field) a k v e = cc

-- ---- what is declared

sub_declared : (end index : ℕ) (s : Sub) → index < end → SubRefers end index s → NamesBelow end (sub_of s)
sub_declared end index s lt h = record {
  one_supertype = h.one_supertype;
  names = All-append (λ t. t < end) s.supers (comp_names (comp_of s.comp)) (λ k d l. let u = h.supertypes k d l in omega (arith, u, lt)) (comp_below end s.comp h.others);
}

group_declared : (first : ℕ) (g : Group) → GroupRefers first g → All (λ s. NamesBelow (first + length g) (sub_of s)) g
group_declared first g h = λ k d lt. sub_declared (first + length g) (first + k) (get_or g k d) (omega (arith, lt)) (h k d lt)

declared_from : (first : ℕ) (gs : List Group) → ((i : ℕ) (d : Group) → i < length gs → GroupRefers (first + count (take i gs)) (get_or gs i d)) → AreDeclared first gs
declared_from first [] h = tt
declared_from first (g ∷ gs) h =
    let start : first + 0 ≡ first = omega arith in (
      group_declared first g (subst (λ (n : ℕ). GroupRefers n g) start (h 0 g (omega arith))),
      declared_from (first + length g) gs (λ i d lt.
          let more : count (g ∷ take i gs) ≡ length g + count (take i gs) = count_more g (take i gs) in
          let same : first + count (g ∷ take i gs) ≡ first + length g + count (take i gs) = omega (arith, more) in
          subst (λ (n : ℕ). GroupRefers n (get_or gs i d)) same (h (suc i) d (omega (arith, lt)))),
    )

pub types_declared : (gs : List Group) → TypesRefer gs → AreDeclared 0 gs
types_declared gs h = declared_from 0 gs (λ i d lt. let same : count (take i gs) ≡ 0 + count (take i gs) = omega arith in subst (λ (n : ℕ). GroupRefers n (get_or gs i d)) same (h i d lt))

-- ---- what a member of a group names

pub member_refers : (gs : List Group) → TypesRefer gs → (i : ℕ) (x : TypeDef) (m : IsMember 0 gs i x) → SubRefers (count (take m.number gs) + length m.group) i m.sub
member_refers gs h i x m =
    let g = got_in gs m.number m.group m.group_there in
    let s = got_in m.group m.at m.sub m.sub_there in
    let refers : GroupRefers (count (take m.number gs)) m.group = subst (λ (y : Group). GroupRefers (count (take m.number gs)) y) (g.1 m.group) (h m.number m.group g.0) in
    subst (λ (n : ℕ). SubRefers (count (take m.number gs) + length m.group) n m.sub) (sym m.index)
    (subst (λ (y : Sub). SubRefers (count (take m.number gs) + length m.group) (count (take m.number gs) + m.at) y) (s.1 m.sub) (refers m.at m.sub s.0))
