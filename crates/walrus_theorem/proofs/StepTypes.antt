-- A lone function type that doesn't name itself, under its new number.
use Rattle.std.proofs.Common.{◌≡◌, ℕ, suc, true, List, [], ◌∷◌, ◌++◌, map, refl, sym, ap, ap₂, ◌∙◌, subst, ne_eqb}
use Rattle.std.proofs.lemmas.Grind.{flat_map-append}
use Rattle.std.specs.Prelude.{flat_map, Some, None, option_map, Contains, if◌then◌else◌}
use Rattle.walrus_base.specs.Types.{HeapType, OfHeap, Concrete, Exact, ValType, I32, I64, F32, F64, V128, Ref, StorageType, Unpacked, I8, I16, FieldType, CompType, Func, Struct, Array, map_heap, map_val, map_storage, map_field, map_comp, val_heaps, storage_heaps, field_heaps, heap_names, comp_names}
use Rattle.walrus_base.specs.Operators.{Types}
use Rattle.walrus_base.specs.Shape.{Seen, Other, seen_at, seen_from, others_through}
use Rattle.walrus_model.specs.Abstract.{TypeDef}
use Rattle.walrus_model.specs.Renaming.{Renaming}
use Rattle.walrus_model.specs.Same.{SameType}
use Rattle.walrus_model.specs.Out.{IsLoneFunctionType}
use Rattle.walrus_theorem.specs.Chain.{alone}
use Rattle.walrus_base.proofs.Lists.{Contains-head, Contains-append_1, Contains-append_2}
use Rattle.walrus_base.proofs.TypeMaps.{comp-map}

-- ---- two maps that agree on the names in a type

module _ {S : Type 0} (f g : ℕ → S) where
  heap_agrees : (h : HeapType ℕ) → ((t : ℕ) → Contains (heap_names h) t → f t ≡ g t) → map_heap f h ≡ map_heap g h
  heap_agrees (OfHeap h) e = refl
  heap_agrees (Concrete t) e = ap Concrete (e t (Contains-head t []))
  heap_agrees (Exact t) e = ap Exact (e t (Contains-head t []))

  abbrev Agree : List (HeapType ℕ) → Type 0
  Agree hs = (t : ℕ) → Contains (flat_map heap_names hs) t → f t ≡ g t

  agree_left : (hs ks : List (HeapType ℕ)) → Agree (hs ++ ks) → Agree hs
  agree_left hs ks e t at = e t (subst (λ l. Contains l t) (sym (flat_map-append heap_names hs ks)) (Contains-append_1 t (flat_map heap_names hs) (flat_map heap_names ks) at))

  agree_right : (hs ks : List (HeapType ℕ)) → Agree (hs ++ ks) → Agree ks
  agree_right hs ks e t at = e t (subst (λ l. Contains l t) (sym (flat_map-append heap_names hs ks)) (Contains-append_2 t (flat_map heap_names hs) (flat_map heap_names ks) at))

  val_agrees : (v : ValType ℕ) → Agree (val_heaps v) → map_val f v ≡ map_val g v
  val_agrees I32 e = refl
  val_agrees I64 e = refl
  val_agrees F32 e = refl
  val_agrees F64 e = refl
  val_agrees V128 e = refl
  val_agrees (Ref r) e = ap (λ h. Ref (record { nullable = r.nullable; heap = h })) (heap_agrees r.heap (λ t at. e t (Contains-append_1 t (heap_names r.heap) [] at)))

  vals_agree : (vs : List (ValType ℕ)) → Agree (flat_map val_heaps vs) → map (map_val f) vs ≡ map (map_val g) vs
  vals_agree [] e = refl
  vals_agree (v ∷ vs) e = ap₂ ◌∷◌ (val_agrees v (agree_left (val_heaps v) (flat_map val_heaps vs) e)) (vals_agree vs (agree_right (val_heaps v) (flat_map val_heaps vs) e))

  storage_agrees : (s : StorageType ℕ) → Agree (storage_heaps s) → map_storage f s ≡ map_storage g s
  storage_agrees (Unpacked v) e = ap Unpacked (val_agrees v e)
  storage_agrees I8 e = refl
  storage_agrees I16 e = refl

  field_agrees : (x : FieldType ℕ) → Agree (field_heaps x) → map_field f x ≡ map_field g x
  field_agrees x e = ap (λ s. record { storage = s; mutable = x.mutable }) (storage_agrees x.storage e)

  fields_agree : (xs : List (FieldType ℕ)) → Agree (flat_map field_heaps xs) → map (map_field f) xs ≡ map (map_field g) xs
  fields_agree [] e = refl
  fields_agree (x ∷ xs) e = ap₂ ◌∷◌ (field_agrees x (agree_left (field_heaps x) (flat_map field_heaps xs) e)) (fields_agree xs (agree_right (field_heaps x) (flat_map field_heaps xs) e))

  pub comp_agrees : (c : CompType ℕ) → ((t : ℕ) → Contains (comp_names c) t → f t ≡ g t) → map_comp f c ≡ map_comp g c
  comp_agrees (Func params results) e = ap₂ Func
      (vals_agree params (agree_left (flat_map val_heaps params) (flat_map val_heaps results) e))
      (vals_agree results (agree_right (flat_map val_heaps params) (flat_map val_heaps results) e))
  comp_agrees (Struct fields) e = ap Struct (fields_agree fields e)
  comp_agrees (Array element) e = ap Array (field_agrees element e)

-- ---- a lone type

another_seen : (r : ℕ → ℕ) (t u : ℕ) → (t ≡ u → ⊥) → others_through r (seen_from (t ∷ []) u) ≡ Other (r u)
another_seen r t u other = ap (λ b. others_through r (seen_at (if b then Some 0 else option_map suc None) u)) (ne_eqb t u other)

pub lone_type : (r : Renaming) (comp : CompType ℕ) (t : ℕ) (y : TypeDef) → (Contains (comp_names comp) t → ⊥) → SameType (r.numbers Types) t (alone t comp) y → IsLoneFunctionType r comp y (r.numbers Types t)
lone_type r comp t y apart same = record {
  group = same.group;
  sub = same.sub ∙ ap (λ (c : CompType Seen). record { is_final = true; supertypes = []; comp = c })
      (comp-map (others_through (r.numbers Types)) (seen_from (t ∷ [])) comp
      ∙ comp_agrees (λ u. others_through (r.numbers Types) (seen_from (t ∷ []) u)) (λ u. Other (r.numbers Types u)) comp
      (λ u at. another_seen (r.numbers Types) t u (λ is. apart (subst (λ x. Contains (comp_names comp) x) (sym is) at))));
}
