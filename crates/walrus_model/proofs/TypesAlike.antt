-- Two maps of names that agree on the names that stand in a type make one type of it.
use Rattle.std.proofs.Common.{◌≡◌, List, [], map, refl, ap, ap₂}
use Rattle.std.specs.Prelude.{flat_map, Contains}
use Rattle.walrus_base.specs.Types.{HeapType, OfHeap, Concrete, Exact, RefType, ValType, I32, I64, F32, F64, V128, Ref, StorageType, Unpacked, I8, I16, FieldType, CompType, Func, Struct, Array, SubType, map_heap, map_ref, map_val, map_storage, map_field, map_comp, map_sub, val_heaps, storage_heaps, field_heaps, comp_heaps, heap_names, val_names, comp_names, sub_names}
use Rattle.walrus_base.proofs.Lists.{map-same_on, Contains-head, Contains-append_1, Contains-append_2}
use Rattle.walrus_model.proofs.TypeRules.{Contains-flat_map}

module _ {R S : Type 0} (f g : R → S) where
  abbrev pub Agrees : List R → Type 0
  Agrees ts = (t : R) → Contains ts t → f t ≡ g t

  abbrev OnHeaps : List (HeapType R) → Type 0
  OnHeaps hs = (h : HeapType R) → Contains hs h → map_heap f h ≡ map_heap g h

  pub heap_alike : (h : HeapType R) → Agrees (heap_names h) → map_heap f h ≡ map_heap g h
  heap_alike (OfHeap h) on = refl
  heap_alike (Concrete t) on = ap Concrete (on t (Contains-head t []))
  heap_alike (Exact t) on = ap Exact (on t (Contains-head t []))

  on_heaps : (hs : List (HeapType R)) → Agrees (flat_map heap_names hs) → OnHeaps hs
  on_heaps hs on h at = heap_alike h (λ t has. on t (Contains-flat_map heap_names hs h t at has))

  pub ref_alike : (r : RefType R) → Agrees (heap_names r.heap) → map_ref f r ≡ map_ref g r
  ref_alike r on = ap (λ h. record { nullable = r.nullable; heap = h }) (heap_alike r.heap on)

  val_on : (v : ValType R) → OnHeaps (val_heaps v) → map_val f v ≡ map_val g v
  val_on I32 on = refl
  val_on I64 on = refl
  val_on F32 on = refl
  val_on F64 on = refl
  val_on V128 on = refl
  val_on (Ref r) on = ap (λ h. Ref (record { nullable = r.nullable; heap = h })) (on r.heap (Contains-head r.heap []))

  vals_on : (vs : List (ValType R)) → OnHeaps (flat_map val_heaps vs) → map (map_val f) vs ≡ map (map_val g) vs
  vals_on vs on = map-same_on (map_val f) (map_val g) vs (λ v at. val_on v (λ h has. on h (Contains-flat_map val_heaps vs v h at has)))

  storage_on : (s : StorageType R) → OnHeaps (storage_heaps s) → map_storage f s ≡ map_storage g s
  storage_on (Unpacked v) on = ap Unpacked (val_on v on)
  storage_on I8 on = refl
  storage_on I16 on = refl

  field_on : (x : FieldType R) → OnHeaps (field_heaps x) → map_field f x ≡ map_field g x
  field_on x on = ap (λ s. record { storage = s; mutable = x.mutable }) (storage_on x.storage on)

  comp_on : (c : CompType R) → OnHeaps (comp_heaps c) → map_comp f c ≡ map_comp g c
  comp_on (Func params results) on = ap₂ Func
      (vals_on params (λ h at. on h (Contains-append_1 h (flat_map val_heaps params) (flat_map val_heaps results) at)))
      (vals_on results (λ h at. on h (Contains-append_2 h (flat_map val_heaps params) (flat_map val_heaps results) at)))
  comp_on (Struct fields) on = ap Struct (map-same_on (map_field f) (map_field g) fields (λ x at. field_on x (λ h has. on h (Contains-flat_map field_heaps fields x h at has))))
  comp_on (Array element) on = ap Array (field_on element on)

  pub val_alike : (v : ValType R) → Agrees (val_names v) → map_val f v ≡ map_val g v
  val_alike v on = val_on v (on_heaps (val_heaps v) on)

  pub sub_alike : (x : SubType R) → Agrees (sub_names x) → map_sub f x ≡ map_sub g x
  sub_alike x on = ap₂ (λ s c. record { is_final = x.is_final; supertypes = s; comp = c })
      (map-same_on f g x.supertypes (λ t at. on t (Contains-append_1 t x.supertypes (comp_names x.comp) at)))
      (comp_on x.comp (on_heaps (comp_heaps x.comp) (λ t at. on t (Contains-append_2 t x.supertypes (comp_names x.comp) at))))
