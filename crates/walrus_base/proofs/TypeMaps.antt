-- Types put through a map of names: a map after a map, and the names that stand in what comes out.
use Rattle.std.proofs.Common.{◌≡◌, List, map, refl, ap, ap₂, ◌∙◌}
use Rattle.std.specs.Prelude.{flat_map}
use Rattle.walrus_base.specs.Types.{HeapType, OfHeap, Concrete, Exact, RefType, ValType, I32, I64, F32, F64, V128, Ref, StorageType, Unpacked, I8, I16, FieldType, CompType, Func, Struct, Array, SubType, map_heap, map_ref, map_val, map_storage, map_field, map_comp, map_sub, val_heaps, storage_heaps, field_heaps, comp_heaps, heap_names, val_names, comp_names, sub_names}
use Rattle.walrus_base.proofs.Lists.{map-map, map-same, map-itself, flat_map-follows_all, append-follows}
use mathlib.Core.Path.{fun_ext}

-- ---- one map after another

module _ {R S T : Type 0} (g : S → T) (f : R → S) where
  pub heap-map : (h : HeapType R) → map_heap g (map_heap f h) ≡ map_heap (λ t. g (f t)) h
  heap-map (OfHeap h) = refl
  heap-map (Concrete t) = refl
  heap-map (Exact t) = refl

  pub ref-map : (r : RefType R) → map_ref g (map_ref f r) ≡ map_ref (λ t. g (f t)) r
  ref-map r = ap (λ h. record { nullable = r.nullable; heap = h }) (heap-map r.heap)

  pub val-map : (v : ValType R) → map_val g (map_val f v) ≡ map_val (λ t. g (f t)) v
  val-map I32 = refl
  val-map I64 = refl
  val-map F32 = refl
  val-map F64 = refl
  val-map V128 = refl
  val-map (Ref r) = ap Ref (ref-map r)

  pub vals-map : (vs : List (ValType R)) → map (map_val g) (map (map_val f) vs) ≡ map (map_val (λ t. g (f t))) vs
  vals-map vs = map-map (map_val g) (map_val f) vs ∙ map-same (λ v. map_val g (map_val f v)) (map_val (λ t. g (f t))) vs val-map

  pub storage-map : (s : StorageType R) → map_storage g (map_storage f s) ≡ map_storage (λ t. g (f t)) s
  storage-map (Unpacked v) = ap Unpacked (val-map v)
  storage-map I8 = refl
  storage-map I16 = refl

  pub field-map : (x : FieldType R) → map_field g (map_field f x) ≡ map_field (λ t. g (f t)) x
  field-map x = ap (λ s. record { storage = s; mutable = x.mutable }) (storage-map x.storage)

  pub comp-map : (c : CompType R) → map_comp g (map_comp f c) ≡ map_comp (λ t. g (f t)) c
  comp-map (Func params results) = ap₂ Func (vals-map params) (vals-map results)
  comp-map (Struct fields) = ap Struct (map-map (map_field g) (map_field f) fields ∙ map-same (λ x. map_field g (map_field f x)) (map_field (λ t. g (f t))) fields field-map)
  comp-map (Array element) = ap Array (field-map element)

  pub sub-map : (x : SubType R) → map_sub g (map_sub f x) ≡ map_sub (λ t. g (f t)) x
  sub-map x = ap₂ (λ s c. record { is_final = x.is_final; supertypes = s; comp = c }) (map-map g f x.supertypes) (comp-map x.comp)

-- ---- a map that changes no name

module _ {R : Type 0} (f : R → R) (same : (t : R) → f t ≡ t) where
  pub heap-itself : (h : HeapType R) → map_heap f h ≡ h
  heap-itself (OfHeap h) = refl
  heap-itself (Concrete t) = ap Concrete (same t)
  heap-itself (Exact t) = ap Exact (same t)

  pub val-itself : (v : ValType R) → map_val f v ≡ v
  val-itself I32 = refl
  val-itself I64 = refl
  val-itself F32 = refl
  val-itself F64 = refl
  val-itself V128 = refl
  val-itself (Ref r) = ap (λ h. Ref (record { nullable = r.nullable; heap = h })) (heap-itself r.heap)

  storage-itself : (s : StorageType R) → map_storage f s ≡ s
  storage-itself (Unpacked v) = ap Unpacked (val-itself v)
  storage-itself I8 = refl
  storage-itself I16 = refl

  field-itself : (x : FieldType R) → map_field f x ≡ x
  field-itself x = ap (λ s. record { storage = s; mutable = x.mutable }) (storage-itself x.storage)

  comp-itself : (c : CompType R) → map_comp f c ≡ c
  comp-itself (Func params results) = ap₂ Func (map-itself (map_val f) params val-itself) (map-itself (map_val f) results val-itself)
  comp-itself (Struct fields) = ap Struct (map-itself (map_field f) fields field-itself)
  comp-itself (Array element) = ap Array (field-itself element)

  pub sub-itself : (x : SubType R) → map_sub f x ≡ x
  sub-itself x = ap₂ (λ s c. record { is_final = x.is_final; supertypes = s; comp = c }) (map-itself f x.supertypes same) (comp-itself x.comp)

-- two maps that agree
pub sub-same : {R S : Type 0} (f g : R → S) (x : SubType R) → ((t : R) → f t ≡ g t) → map_sub f x ≡ map_sub g x
sub-same f g x h = ap (λ k. map_sub k x) (fun_ext h)

-- ---- the names that stand in a type put through a map

module _ {R S : Type 0} (f : R → S) where
  pub heap-names : (h : HeapType R) → heap_names (map_heap f h) ≡ map f (heap_names h)
  heap-names (OfHeap h) = refl
  heap-names (Concrete t) = refl
  heap-names (Exact t) = refl

  val-heaps : (v : ValType R) → val_heaps (map_val f v) ≡ map (map_heap f) (val_heaps v)
  val-heaps I32 = refl
  val-heaps I64 = refl
  val-heaps F32 = refl
  val-heaps F64 = refl
  val-heaps V128 = refl
  val-heaps (Ref r) = refl

  storage-heaps : (s : StorageType R) → storage_heaps (map_storage f s) ≡ map (map_heap f) (storage_heaps s)
  storage-heaps (Unpacked v) = val-heaps v
  storage-heaps I8 = refl
  storage-heaps I16 = refl

  field-heaps : (x : FieldType R) → field_heaps (map_field f x) ≡ map (map_heap f) (field_heaps x)
  field-heaps x = storage-heaps x.storage

  comp-heaps : (c : CompType R) → comp_heaps (map_comp f c) ≡ map (map_heap f) (comp_heaps c)
  comp-heaps (Func params results) = append-follows (map_heap f) (flat_map val_heaps params) (flat_map val_heaps results) (flat_map val_heaps (map (map_val f) params)) (flat_map val_heaps (map (map_val f) results))
      (flat_map-follows_all val_heaps val_heaps (map_val f) (map_heap f) params val-heaps)
      (flat_map-follows_all val_heaps val_heaps (map_val f) (map_heap f) results val-heaps)
  comp-heaps (Struct fields) = flat_map-follows_all field_heaps field_heaps (map_field f) (map_heap f) fields field-heaps
  comp-heaps (Array element) = field-heaps element

  heaps-names : (hs : List (HeapType R)) → flat_map heap_names (map (map_heap f) hs) ≡ map f (flat_map heap_names hs)
  heaps-names hs = flat_map-follows_all heap_names heap_names (map_heap f) f hs heap-names

  pub val-names : (v : ValType R) → val_names (map_val f v) ≡ map f (val_names v)
  val-names v = ap (flat_map heap_names) (val-heaps v) ∙ heaps-names (val_heaps v)

  pub comp-names : (c : CompType R) → comp_names (map_comp f c) ≡ map f (comp_names c)
  comp-names c = ap (flat_map heap_names) (comp-heaps c) ∙ heaps-names (comp_heaps c)

  pub sub-names : (x : SubType R) → sub_names (map_sub f x) ≡ map f (sub_names x)
  sub-names x = append-follows f x.supertypes (comp_names x.comp) (map f x.supertypes) (comp_names (map_comp f x.comp)) refl (comp-names x.comp)
