-- Types looked up where each number below an end leads to itself, and no other leads anywhere: the same types, exactly where they
-- name only such as stand below the end.
use Rattle.std.proofs.Common.{◌≡◌, ℕ, ◌<◌, ◌≤◌, ⊎_elim, List, [], ◌∷◌, ◌++◌, length, get_or, map, flat_map, Option, Some, None, refl, sym, ap, ap₂, ◌∙◌, subst, arith}
use Rattle.std.specs.Prelude.{All, slice_get}
use Rattle.std.specs.List.{range_with_len}
use Rattle.std.proofs.lemmas.Bool.{cases_lt}
use Rattle.std.proofs.lemmas.Grind.{flat_map-append}
use Rattle.std.proofs.lemmas.List.Elements.{All-append, All-nil, All-cons, All-head, All-tail}
use Rattle.std.proofs.lemmas.List.FromFn.{length-range_with_len, get_or-range_with_len}
use Rattle.std.proofs.lemmas.Option.{slice_get-get_or, slice_get_past}
use Rattle.wasm_forms.specs.Reading.{◌>>=◌}
use Rattle.wasm_entries.specs.Record.{Sub}
use Rattle.walrus_base.specs.Types.{HeapType, OfHeap, Concrete, Exact, ValType, I32, I64, F32, F64, V128, Ref, StorageType, Unpacked, I8, I16, FieldType, CompType, Func, Struct, Array, SubType, val_heaps, storage_heaps, field_heaps, heap_names, comp_names}
use Rattle.walrus_base.specs.Operators.{Types}
use Rattle.walrus_code.specs.Names.{Lookup, named_heap, named_val}
use Rattle.walrus_groups.specs.Groups.{sub_of, NamesBelow}
use Rattle.walrus_groups.specs.Named.{each, named_vals, named_storage, named_field, named_fields, named_comp}
use Rattle.walrus_groups.specs.Reading.{one_supertype, read_sub}

-- what is found for this is itself, and something is found exactly where P
pub record Kept {X : Type 0} (P : Type 0) (found : Option X) (x : X) : Type 0 where
  pub stays : P → found ≡ Some x
  pub holds : (y : X) → found ≡ Some y → P

pub All-front : {Z : Type 0} (P : Z → Type 0) (xs ys : List Z) → All P (xs ++ ys) → All P xs
All-front P [] ys h = All-nil P
All-front P (x ∷ xs) ys h = All-cons P x xs (All-head P x (xs ++ ys) h) (All-front P xs ys (All-tail P x (xs ++ ys) h))

pub All-back : {Z : Type 0} (P : Z → Type 0) (xs ys : List Z) → All P (xs ++ ys) → All P ys
All-back P [] ys h = h
All-back P (x ∷ xs) ys h = All-back P xs ys (All-tail P x (xs ++ ys) h)

kept-iff : {X : Type 0} {P Q : Type 0} (found : Option X) (x : X) → (P → Q) → (Q → P) → Kept P found x → Kept Q found x
kept-iff found x there back k = record { stays = λ q. k.stays (back q); holds = λ y h. there (k.holds y h) }

kept-one : {X Y : Type 0} (P : Type 0) (C : X → Y) (found : Option X) (x : X) → Kept P found x → Kept P (found >>= λ a. Some (C a)) (C x)
kept-one {X} {Y} P C found x k = record { stays = λ p. ap (λ f. f >>= λ a. Some (C a)) (k.stays p); holds = λ y h. holds_at found k.holds y h }
  where
    holds_at : (found : Option X) → ((a : X) → found ≡ Some a → P) → (y : Y) → (found >>= λ a. Some (C a)) ≡ Some y → P
    holds_at None k y h = absurd cc
    holds_at (Some a) k y h = k a refl

kept-two : {X Y Z : Type 0} (P Q : Type 0) (C : X → Y → Z) (f : Option X) (x : X) (g : Option Y) (y : Y) → Kept P f x → Kept Q g y → Kept (P × Q) (f >>= λ a. g >>= λ b. Some (C a b)) (C x y)
kept-two {X} {Y} {Z} P Q C f x g y kf kg = record {
  stays = λ pq. ap₂ (λ u v. u >>= λ a. v >>= λ b. Some (C a b)) (kf.stays pq.0) (kg.stays pq.1);
  holds = λ z h. holds_at f g kf.holds kg.holds z h;
}
  where
    holds_at : (f : Option X) (g : Option Y) → ((a : X) → f ≡ Some a → P) → ((b : Y) → g ≡ Some b → Q) → (z : Z) → (f >>= λ a. g >>= λ b. Some (C a b)) ≡ Some z → P × Q
    holds_at None g kf kg z h = absurd cc
    holds_at (Some a) None kf kg z h = absurd cc
    holds_at (Some a) (Some b) kf kg z h = (kf a refl, kg b refl)

-- ---- each number below the end leads to itself

module _ (names : Lookup) (end : ℕ) (here : (t : ℕ) → t < end → names Types t ≡ Some t) (none : (t : ℕ) → end ≤ t → names Types t ≡ None) where
  -- all of these stand below the end
  abbrev Below : List ℕ → Type 0
  Below ts = All (λ t. t < end) ts

  kept-append : {X Y Z : Type 0} (C : X → Y → Z) (f : Option X) (x : X) (g : Option Y) (y : Y) (ps qs : List ℕ) → Kept (Below ps) f x → Kept (Below qs) g y → Kept (Below (ps ++ qs)) (f >>= λ a. g >>= λ b. Some (C a b)) (C x y)
  kept-append C f x g y ps qs kf kg =
      kept-iff _ _ (λ (both : Below ps × Below qs). All-append (λ t. t < end) ps qs both.0 both.1) (λ all. (All-front (λ t. t < end) ps qs all, All-back (λ t. t < end) ps qs all)) (kept-two (Below ps) (Below qs) C f x g y kf kg)

  kept-each : {X : Type 0} (find : X → Option X) (list : X → List ℕ) → ((x : X) → Kept (Below (list x)) (find x) x) → (xs : List X) → Kept (Below (flat_map list xs)) (each find xs) xs
  kept-each find list k [] = record { stays = λ p. refl; holds = λ y h. All-nil (λ t. t < end) }
  kept-each find list k (x ∷ xs) = kept-append (λ x xs. x ∷ xs) (find x) x (each find xs) xs (list x) (flat_map list xs) (k x) (kept-each find list k xs)

  kept-at : (t : ℕ) → Kept (Below (t ∷ [])) (names Types t) t
  kept-at t = record {
    stays = λ below. here t (All-head (λ t. t < end) t [] below);
    holds = λ y h. All-cons (λ t. t < end) t [] (found_below y h) (All-nil (λ t. t < end));
  }
    where
      found_below : (y : ℕ) → names Types t ≡ Some y → t < end
      found_below y h = ⊎_elim (λ l. l) (λ past. absurd (let lost : names Types t ≡ None = none t past in cc)) (cases_lt t end)

  kept-none : {X : Type 0} (x : X) → Kept (Below []) (Some x) x
  kept-none x = record { stays = λ p. refl; holds = λ y h. All-nil (λ t. t < end) }

  kept-heap : (h : HeapType ℕ) → Kept (Below (heap_names h)) (named_heap names h) h
  kept-heap (OfHeap h) = kept-none (OfHeap h)
  kept-heap (Concrete t) = kept-one (Below (t ∷ [])) (λ f. Concrete f) (names Types t) t (kept-at t)
  kept-heap (Exact t) = kept-one (Below (t ∷ [])) (λ f. Exact f) (names Types t) t (kept-at t)

  -- the names of heap types
  abbrev in_heaps : List (HeapType ℕ) → List ℕ
  in_heaps hs = flat_map heap_names hs

  kept-val : (v : ValType ℕ) → Kept (Below (in_heaps (val_heaps v))) (named_val names v) v
  kept-val (Ref r) =
      kept-one (Below (in_heaps (r.heap ∷ []))) (λ h. Ref (record { nullable = r.nullable; heap = h })) (named_heap names r.heap) r.heap
      (kept-iff _ _ (λ (b : Below (heap_names r.heap)). All-append (λ t. t < end) (heap_names r.heap) [] b (All-nil (λ t. t < end))) (λ b. All-front (λ t. t < end) (heap_names r.heap) [] b) (kept-heap r.heap))
  kept-val I32 = kept-none I32
  kept-val I64 = kept-none I64
  kept-val F32 = kept-none F32
  kept-val F64 = kept-none F64
  kept-val V128 = kept-none V128

  kept-storage : (s : StorageType ℕ) → Kept (Below (in_heaps (storage_heaps s))) (named_storage names s) s
  kept-storage (Unpacked v) = kept-one (Below (in_heaps (val_heaps v))) (λ f. Unpacked f) (named_val names v) v (kept-val v)
  kept-storage I8 = kept-none I8
  kept-storage I16 = kept-none I16

  kept-field : (f : FieldType ℕ) → Kept (Below (in_heaps (field_heaps f))) (named_field names f) f
  kept-field f = kept-one (Below (in_heaps (field_heaps f))) (λ s. record { storage = s; mutable = f.mutable }) (named_storage names f.storage) f.storage (kept-storage f.storage)

  -- the names in the heap types of all are those of one behind those of another
  in_all : {X : Type 0} (heaps : X → List (HeapType ℕ)) (xs : List X) → flat_map (λ x. in_heaps (heaps x)) xs ≡ in_heaps (flat_map heaps xs)
  in_all heaps [] = refl
  in_all heaps (x ∷ xs) = ap (λ ts. in_heaps (heaps x) ++ ts) (in_all heaps xs) ∙ sym (flat_map-append heap_names (heaps x) (flat_map heaps xs))

  kept-all : {X : Type 0} (find : X → Option X) (heaps : X → List (HeapType ℕ)) → ((x : X) → Kept (Below (in_heaps (heaps x))) (find x) x) → (xs : List X) → Kept (Below (in_heaps (flat_map heaps xs))) (each find xs) xs
  kept-all find heaps k xs = subst (λ (ts : List ℕ). Kept (Below ts) (each find xs) xs) (in_all heaps xs) (kept-each find (λ x. in_heaps (heaps x)) k xs)

  kept-comp : (c : CompType ℕ) → Kept (Below (comp_names c)) (named_comp names c) c
  kept-comp (Func params results) =
      subst (λ (ts : List ℕ). Kept (Below ts) (named_comp names (Func params results)) (Func params results)) (sym (flat_map-append heap_names (flat_map val_heaps params) (flat_map val_heaps results)))
      (kept-append (λ takes gives. Func takes gives) (named_vals names params) params (named_vals names results) results (in_heaps (flat_map val_heaps params)) (in_heaps (flat_map val_heaps results))
      (kept-all (named_val names) val_heaps kept-val params) (kept-all (named_val names) val_heaps kept-val results))
  kept-comp (Struct fields) = kept-one (Below (in_heaps (flat_map field_heaps fields))) (λ fs. Struct fs) (named_fields names fields) fields (kept-all (named_field names) field_heaps kept-field fields)
  kept-comp (Array element) = kept-one (Below (in_heaps (field_heaps element))) (λ f. Array f) (named_field names element) element (kept-field element)

  kept-supertypes : (ts : List ℕ) → Kept ((length ts ≤ 1) × Below ts) (one_supertype names ts) ts
  kept-supertypes [] = record { stays = λ p. refl; holds = λ y h. (omega arith, All-nil (λ t. t < end)) }
  kept-supertypes (t ∷ []) = kept-one ((1 ≤ 1) × Below (t ∷ [])) (λ f. f ∷ []) (names Types t) t (kept-iff _ _ (λ (b : Below (t ∷ [])). (omega arith, b)) (λ b. b.1) (kept-at t))
  kept-supertypes (t ∷ u ∷ ts) = record { stays = λ p. absurd (omega (arith, p.0)); holds = λ y h. absurd cc }

  pub kept-sub : (s : SubType ℕ) → Kept (NamesBelow end s) (read_sub names s) s
  kept-sub s =
      kept-iff _ _
      (λ (b : ((length s.supertypes ≤ 1) × Below s.supertypes) × Below (comp_names s.comp)). record { one_supertype = b.0.0; names = All-append (λ t. t < end) s.supertypes (comp_names s.comp) b.0.1 b.1 })
      (λ b. ((b.one_supertype, All-front (λ t. t < end) s.supertypes (comp_names s.comp) b.names), All-back (λ t. t < end) s.supertypes (comp_names s.comp) b.names))
      (kept-two ((length s.supertypes ≤ 1) × Below s.supertypes) (Below (comp_names s.comp)) (λ supertypes comp. record { is_final = s.is_final; supertypes = supertypes; comp = comp }) (one_supertype names s.supertypes) s.supertypes (named_comp names s.comp) s.comp (kept-supertypes s.supertypes) (kept-comp s.comp))

  -- the same of the members of a group
  pub kept-subs : (g : List Sub) → Kept (All (λ s. NamesBelow end (sub_of s)) g) (each (read_sub names) (map sub_of g)) (map sub_of g)
  kept-subs [] = record { stays = λ p. refl; holds = λ y h. All-nil (λ s. NamesBelow end (sub_of s)) }
  kept-subs (s ∷ g) =
      kept-iff _ _
      (λ (b : NamesBelow end (sub_of s) × All (λ s. NamesBelow end (sub_of s)) g). All-cons (λ s. NamesBelow end (sub_of s)) s g b.0 b.1)
      (λ b. (All-head (λ s. NamesBelow end (sub_of s)) s g b, All-tail (λ s. NamesBelow end (sub_of s)) s g b))
      (kept-two (NamesBelow end (sub_of s)) (All (λ s. NamesBelow end (sub_of s)) g) (λ x xs. x ∷ xs) (read_sub names (sub_of s)) (sub_of s) (each (read_sub names) (map sub_of g)) (map sub_of g) (kept-sub (sub_of s)) (kept-subs g))

-- ---- a range of numbers from 0 on, looked up by its places

pub range-here : (ps : List ℕ) (end : ℕ) → ps ≡ range_with_len 0 end → (t : ℕ) → t < end → slice_get ps t ≡ Some t
range-here ps end h t l =
    let long : length ps ≡ end = ap length h ∙ length-range_with_len 0 end in
    slice_get-get_or ps t 0 (omega (arith, long, l)) ∙ ap (λ (p : ℕ). Some p) (ap (λ qs. get_or qs t 0) h ∙ get_or-range_with_len 0 end t 0 l ∙ omega arith)

pub range-none : (ps : List ℕ) (end : ℕ) → ps ≡ range_with_len 0 end → (t : ℕ) → end ≤ t → slice_get ps t ≡ None
range-none ps end h t l =
    let long : length ps ≡ end = ap length h ∙ length-range_with_len 0 end in
    slice_get_past ps t (omega (arith, long, l))
