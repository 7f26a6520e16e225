-- Why a type isn't written.
use Rattle.std.proofs.Common.{◌≡◌, ℕ, zero, suc, ◌<◌, length, arith, ◌||◌, ◌⊎◌, inl, inr, Bool, true, false, List, [], ◌∷◌, flat_map, Option, Some, None, refl, sym, ap, ap₂, ◌∙◌, ⊎_elim, subst}
use Rattle.std.specs.Prelude.{Contains, Result, Ok, Err, IfOk}
use Rattle.std.specs.List.{list_any}
use Rattle.std.proofs.lemmas.List.Elements.{Contains-append_left, Contains-append_right}
use Rattle.std.proofs.lemmas.List.Folds.{list_any-append}
use Rattle.wasm_forms.specs.Reading.{◌>>=◌}
use Rattle.wasm_entries.specs.Record.{sub}
use Rattle.wasm_entries.specs.TypeSpelling.{SubStands}
use Rattle.wasm_entries.specs.declared.record.RawSub.{RawSub}
use Rattle.walrus_base.specs.Arena.{item_at, items}
use Rattle.walrus_base.specs.Types.{HeapType, OfHeap, Concrete, Exact, IsNotExact, ValType, I32, I64, F32, F64, V128, Ref, StorageType, Unpacked, I8, I16, FieldType, CompType, Func, Struct, Array, SubType, heap_names, val_heaps, storage_heaps, field_heaps, comp_heaps, comp_names, sub_names}
use Rattle.walrus_base.specs.Operators.{Types}
use Rattle.walrus_base.specs.TypeDef.{TypeDef}
use Rattle.walrus_base.proofs.Lists.{Contains-head, Contains-tail}
use Rattle.walrus_code.specs.Names.{Lookup, named_heap, named_val}
use Rattle.walrus_code.specs.Results.{heap_is_exact, val_is_exact, IndexesIn}
use Rattle.walrus_code.specs.declared.error.IrError.{IrError}
use Rattle.walrus_code.specs.declared.error.IrError.TheVariants.{Malformed, Memory, NoIndex, NotWritable, TooLarge}
use Rattle.walrus_groups.specs.Groups.{sub_of}
use Rattle.walrus_groups.specs.Indexed.{HasExact}
use Rattle.walrus_groups.specs.Named.{each, named_vals, named_storage, named_field, named_fields, named_comp, named_types, named_sub}
use Rattle.walrus_groups.specs.Written.{vals_are_exact, storage_is_exact, field_is_exact, comp_is_exact, sub_is_exact, StandsFor, UnlessRefused}
use Rattle.walrus_base.proofs.WrittenLists.{item_contained}
use Rattle.std.proofs.lemmas.Bool.{or_parts as or_none}

-- ---- lists

pub contains-flat : {X A : Type 0} (f : X → List A) (xs : List X) (x : X) (y : A) → Contains xs x → Contains (f x) y → Contains (flat_map f xs) y
contains-flat f [] x y (k, lt, e) inside = absurd (let l : k < 0 = lt in omega (arith, l))
contains-flat {X} f (z ∷ xs) x y (zero, lt, e) inside = Contains-append_left (f z) (flat_map f xs) y (subst (λ (w : X). Contains (f w) y) (sym e) inside)
contains-flat f (z ∷ xs) x y (suc k, lt, e) inside = Contains-append_right (f z) (flat_map f xs) y (contains-flat f xs x y (k, (let l : suc k < suc (length xs) = lt in omega (arith, l)), e) inside)

any_flat : {X A : Type 0} (p : A → Bool) (f : X → List A) (xs : List X) → list_any (λ x. list_any p (f x)) xs ≡ list_any p (flat_map f xs)
any_flat p f [] = refl
any_flat p f (x ∷ xs) = ap (λ t. list_any p (f x) || t) (any_flat p f xs) ∙ sym (list_any-append p (f x) (flat_map f xs))

any_same : {X : Type 0} (p q : X → Bool) (xs : List X) → ((x : X) → p x ≡ q x) → list_any p xs ≡ list_any q xs
any_same p q [] h = refl
any_same p q (x ∷ xs) h = ap₂ ◌||◌ (h x) (any_same p q xs h)

pub any_found : {X : Type 0} (p : X → Bool) (xs : List X) → list_any p xs ≡ true → (x : X) × (Contains xs x × (p x ≡ true))
any_found p [] h = absurd cc
any_found {X} p (x ∷ xs) h = by_test (p x) refl h (λ g. any_found p xs g)
  where
    by_test : (t : Bool) → p x ≡ t → (t || list_any p xs) ≡ true → (list_any p xs ≡ true → (y : X) × (Contains xs y × (p y ≡ true))) → (y : X) × (Contains (x ∷ xs) y × (p y ≡ true))
    by_test true e h later = (x, (Contains-head x xs, e))
    by_test false e h later = let r = later h in (r.0, (Contains-tail x r.0 xs r.1.0, r.1.1))

any_none : {X : Type 0} (p : X → Bool) (xs : List X) (x : X) → list_any p xs ≡ false → Contains xs x → p x ≡ false
any_none p [] x h (k, lt, e) = absurd (let l : k < 0 = lt in omega (arith, l))
any_none {X} p (z ∷ xs) x h (zero, lt, e) = subst (λ (w : X). p w ≡ false) e (or_none (p z) (list_any p xs) h).0
any_none p (z ∷ xs) x h (suc k, lt, e) = any_none p xs x (or_none (p z) (list_any p xs) h).1 (k, (let l : suc k < suc (length xs) = lt in omega (arith, l)), e)

or_false : (a : Bool) → a ≡ (a || false)
or_false true = refl
or_false false = refl

-- ---- exact heap types

exact_val : (v : ValType ℕ) → val_is_exact v ≡ list_any heap_is_exact (val_heaps v)
exact_val (Ref r) = or_false (heap_is_exact r.heap)
exact_val I32 = refl
exact_val I64 = refl
exact_val F32 = refl
exact_val F64 = refl
exact_val V128 = refl

exact_vals : (vs : List (ValType ℕ)) → vals_are_exact vs ≡ list_any heap_is_exact (flat_map val_heaps vs)
exact_vals vs = any_same val_is_exact (λ v. list_any heap_is_exact (val_heaps v)) vs exact_val ∙ any_flat heap_is_exact val_heaps vs

exact_storage : (s : StorageType ℕ) → storage_is_exact s ≡ list_any heap_is_exact (storage_heaps s)
exact_storage (Unpacked v) = exact_val v
exact_storage I8 = refl
exact_storage I16 = refl

exact_comp : (c : CompType ℕ) → comp_is_exact c ≡ list_any heap_is_exact (comp_heaps c)
exact_comp (Func params results) = ap₂ ◌||◌ (exact_vals params) (exact_vals results) ∙ sym (list_any-append heap_is_exact (flat_map val_heaps params) (flat_map val_heaps results))
exact_comp (Struct fields) = any_same field_is_exact (λ f. list_any heap_is_exact (field_heaps f)) fields (λ f. exact_storage f.storage) ∙ any_flat heap_is_exact field_heaps fields
exact_comp (Array element) = exact_storage element.storage

not_writable : (h : HeapType ℕ) → heap_is_exact h ≡ true → IsNotExact h → ⊥
not_writable (OfHeap h) e n = absurd cc
not_writable (Concrete t) e n = absurd cc
not_writable (Exact t) e n = n

writable : (h : HeapType ℕ) → heap_is_exact h ≡ false → IsNotExact h
writable (OfHeap h) e = tt
writable (Concrete t) e = tt
writable (Exact t) e = absurd cc

pub has_exact : (defs : List TypeDef) (x : TypeDef) → Contains defs x → sub_is_exact x.sub ≡ true → HasExact defs
has_exact defs x inside h = let found = any_found heap_is_exact (comp_heaps x.sub.comp) (sym (exact_comp x.sub.comp) ∙ h) in (x, (found.0, (inside, found.1.0, not_writable found.0 found.1.1)))

pub none_exact : (defs : List TypeDef) → ((x : TypeDef) → Contains defs x → sub_is_exact x.sub ≡ false) → HasExact defs → ⊥
none_exact defs plain (x, (h, (inside, at, exact))) = exact (writable h (any_none heap_is_exact (comp_heaps x.sub.comp) h (sym (exact_comp x.sub.comp) ∙ plain x inside) at))

-- ---- what has no index

bind_none : {X Y : Type 0} (o : Option X) (f : X → Option Y) → (o >>= f) ≡ None → (o ≡ None) ⊎ ((x : X) × (f x ≡ None))
bind_none None f h = inl refl
bind_none (Some x) f h = inr (x, h)

-- where the last step always finds something
last_none : {X Y : Type 0} (o : Option X) (f : X → Y) → (o >>= λ x. Some (f x)) ≡ None → o ≡ None
last_none None f h = refl
last_none (Some x) f h = absurd cc

each_lacks : {X Y : Type 0} (find : X → Option Y) (xs : List X) → each find xs ≡ None → (x : X) × (Contains xs x × (find x ≡ None))
each_lacks find [] h = absurd cc
each_lacks {X} {Y} find (x ∷ xs) h =
    ⊎_elim
    (λ (n : find x ≡ None). (x, (Contains-head x xs, n)))
    (λ (m : (y : Y) × ((each find xs >>= λ others. Some (y ∷ others)) ≡ None)). let r = each_lacks find xs (last_none (each find xs) (λ others. m.0 ∷ others) m.1) in (r.0, (Contains-tail x r.0 xs r.1.0, r.1.1)))
    (bind_none (find x) (λ y. each find xs >>= λ others. Some (y ∷ others)) h)

module _ (names : Lookup) where
  -- one of these heap types names a type that has no index
  abbrev Lacks : List (HeapType ℕ) → Type 0
  Lacks heaps = (h : HeapType ℕ) × (Contains heaps h × ((t : ℕ) × (Contains (heap_names h) t × (names Types t ≡ None))))

  heap_lacks : (h : HeapType ℕ) → named_heap names h ≡ None → (t : ℕ) × (Contains (heap_names h) t × (names Types t ≡ None))
  heap_lacks (OfHeap h) n = absurd cc
  heap_lacks (Concrete t) n = (t, (Contains-head t [], last_none (names Types t) (λ found. Concrete found) n))
  heap_lacks (Exact t) n = (t, (Contains-head t [], last_none (names Types t) (λ found. Exact found) n))

  val_lacks : (v : ValType ℕ) → named_val names v ≡ None → Lacks (val_heaps v)
  val_lacks (Ref r) n = (r.heap, (Contains-head r.heap [], heap_lacks r.heap (last_none (named_heap names r.heap) (λ heap. Ref (record { nullable = r.nullable; heap = heap })) n)))
  val_lacks I32 n = absurd cc
  val_lacks I64 n = absurd cc
  val_lacks F32 n = absurd cc
  val_lacks F64 n = absurd cc
  val_lacks V128 n = absurd cc

  flat_lacks : {X Y : Type 0} (find : X → Option Y) (heaps : X → List (HeapType ℕ)) → ((x : X) → find x ≡ None → Lacks (heaps x)) → (xs : List X) → each find xs ≡ None → Lacks (flat_map heaps xs)
  flat_lacks find heaps lacks xs n =
      let at = each_lacks find xs n in
      let l = lacks at.0 at.1.1 in
      (l.0, (contains-flat heaps xs at.0 l.0 at.1.0 l.1.0, l.1.1))

  storage_lacks : (s : StorageType ℕ) → named_storage names s ≡ None → Lacks (storage_heaps s)
  storage_lacks (Unpacked v) n = val_lacks v (last_none (named_val names v) (λ found. Unpacked found) n)
  storage_lacks I8 n = absurd cc
  storage_lacks I16 n = absurd cc

  field_lacks : (f : FieldType ℕ) → named_field names f ≡ None → Lacks (field_heaps f)
  field_lacks f n = storage_lacks f.storage (last_none (named_storage names f.storage) (λ storage. record { storage = storage; mutable = f.mutable }) n)

  comp_lacks : (c : CompType ℕ) → named_comp names c ≡ None → Lacks (comp_heaps c)
  comp_lacks (Func params results) n =
      ⊎_elim
      (λ (m : named_vals names params ≡ None). let l = flat_lacks (named_val names) val_heaps val_lacks params m in (l.0, (Contains-append_left (flat_map val_heaps params) (flat_map val_heaps results) l.0 l.1.0, l.1.1)))
      (λ (m : (takes : List (ValType ℕ)) × ((named_vals names results >>= λ gives. Some (Func takes gives)) ≡ None)).
      let l = flat_lacks (named_val names) val_heaps val_lacks results (last_none (named_vals names results) (λ gives. Func m.0 gives) m.1) in
      (l.0, (Contains-append_right (flat_map val_heaps params) (flat_map val_heaps results) l.0 l.1.0, l.1.1)))
      (bind_none (named_vals names params) (λ takes. named_vals names results >>= λ gives. Some (Func takes gives)) n)
  comp_lacks (Struct fields) n = flat_lacks (named_field names) field_heaps field_lacks fields (last_none (named_fields names fields) (λ found. Struct found) n)
  comp_lacks (Array element) n = field_lacks element (last_none (named_field names element) (λ found. Array found) n)

  sub_lacks : (s : SubType ℕ) → named_sub names s ≡ None → (t : ℕ) × (Contains (sub_names s) t × (names Types t ≡ None))
  sub_lacks s n =
      ⊎_elim
      (λ (m : named_types names s.supertypes ≡ None). let l = each_lacks (names Types) s.supertypes m in (l.0, (Contains-append_left s.supertypes (comp_names s.comp) l.0 l.1.0, l.1.1)))
      (λ (m : (supertypes : List ℕ) × ((named_comp names s.comp >>= λ comp. Some (record { is_final = s.is_final; supertypes = supertypes; comp = comp })) ≡ None)).
      let l = comp_lacks s.comp (last_none (named_comp names s.comp) (λ comp. record { is_final = s.is_final; supertypes = m.0; comp = comp }) m.1) in
      (l.1.1.0, (Contains-append_right s.supertypes (comp_names s.comp) l.1.1.0 (contains-flat heap_names (comp_heaps s.comp) l.0 l.1.1.0 l.1.0 l.1.1.1.0), l.1.1.1.1)))
      (bind_none (named_types names s.supertypes) (λ supertypes. named_comp names s.comp >>= λ comp. Some (record { is_final = s.is_final; supertypes = supertypes; comp = comp })) n)

  -- a member is written, or there is a cause
  pub member_written : (slots : List (Option TypeDef)) (p : ℕ) (x : TypeDef) (r : Result RawSub IrError) → item_at slots p ≡ Some x
      → IndexesIn (λ raw. sub_of (sub raw)) r (sub_is_exact x.sub) (named_sub names x.sub) → IfOk r (λ raw. SubStands (sub raw))
      → UnlessRefused (λ raw. StandsFor names slots p (sub raw)) names (items slots) r
  member_written slots p x (Ok raw) at indexed stands = (x, (at, record { named = indexed.0; plain = indexed.1; stands = stands }))
  member_written slots p x (Err NoIndex) at indexed stands = let l = sub_lacks x.sub indexed in (x, (l.0, (item_contained 0 slots p x at, l.1.0, l.1.1)))
  member_written slots p x (Err NotWritable) at indexed stands = has_exact (items slots) x (item_contained 0 slots p x at) indexed
  member_written slots p x (Err (Memory e)) at indexed stands = tt
  member_written slots p x (Err Malformed) at indexed stands = indexed
  member_written slots p x (Err TooLarge) at indexed stands = indexed
