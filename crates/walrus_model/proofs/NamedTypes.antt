-- Types put through a look-up: what they name is put through it, and nothing else changes.
use Rattle.std.proofs.Common.{inl, inr, ◌≡◌, ◌⊎◌, ℕ, suc, Bool, true, false, List, [], ◌∷◌, ◌++◌, map, refl, sym, ap, ap₂, subst, ◌∙◌, Some, None}
use Rattle.std.specs.Prelude.{◌≢◌, Option, Contains, flat_map, nat_eq, option_map, if◌then◌else◌}
use Rattle.std.proofs.lemmas.Bool.{ne_eqb}
use Rattle.std.proofs.lemmas.Bool.Decides.{eqb_tells}
use Rattle.wasm_forms.specs.Reading.{◌>>=◌}
use Rattle.walrus_base.specs.Types.{HeapType, OfHeap, Concrete, Exact, ValType, I32, I64, F32, F64, V128, Ref, StorageType, Unpacked, I8, I16, FieldType, CompType, Func, Struct, Array, map_heap, map_val, map_storage, map_field, map_comp, map_sub, heap_names, val_heaps, storage_heaps, field_heaps, comp_heaps, comp_names}
use Rattle.walrus_base.specs.Operators.{Types}
use Rattle.walrus_base.specs.Shape.{Other, place_in, seen_at, seen_from, others_through, in_its_group}
use Rattle.walrus_base.specs.TypeDef.{TypeDef, type_params}
use Rattle.walrus_functions.specs.Names.{Lookup, named_heap, named_val}
use Rattle.walrus_functions.specs.FunctionTypes.{is_function_comp}
use Rattle.walrus_functions.specs.EmittedBody.{comp_takes}
use Rattle.walrus_groups.specs.Named.{each, named_vals, named_storage, named_field, named_fields, named_comp, named_types, named_sub, named_def}
use Rattle.walrus_base.proofs.Lists.{Contains-head, Contains-tail, Contains-uncons, Contains-none}
use Rattle.walrus_base.proofs.Lookups.{map_after}
use Rattle.walrus_base.proofs.Standing.{some_inj, self_eq}
use Rattle.walrus_functions.proofs.LawNamed.{via as one_found}

-- ---- what is made of what was found

two_found : {A B C : Type 0} (P : C → Type 0) (o : Option A) (u : Option B) (make : A → B → C) (c : C) → ((x : A) (y : B) → o ≡ Some x → u ≡ Some y → P (make x y)) → (o >>= λ x. u >>= λ y. Some (make x y)) ≡ Some c → P c
two_found P (Some x) (Some y) make c h e = subst P (some_inj (make x y) c e) (h x y refl refl)
two_found P (Some x) None make c h e = absurd (cc)
two_found P None u make c h e = absurd (cc)

-- ---- lists

-- what holds of each list that is found
each_holds : {X Y : Type 0} (find : X → Option Y) (P : List X → List Y → Type 0) → P [] [] → ((x : X) (y : Y) (xs : List X) (ys : List Y) → find x ≡ Some y → each find xs ≡ Some ys → P xs ys → P (x ∷ xs) (y ∷ ys))
    → (xs : List X) (ys : List Y) → each find xs ≡ Some ys → P xs ys
each_holds find P none more [] ys e = subst (λ l. P [] l) (some_inj [] ys e) none
each_holds find P none more (x ∷ xs) ys e =
    two_found (λ l. P (x ∷ xs) l) (find x) (each find xs) (λ found others. found ∷ others) ys
    (λ y zs at rest. more x y xs zs at rest (each_holds find P none more xs zs rest)) e

pub each_map : {X Y Z : Type 0} (find : X → Option Y) (p : Y → Z) (q : X → Z) → ((x : X) (y : Y) → find x ≡ Some y → p y ≡ q x) → (xs : List X) (ys : List Y) → each find xs ≡ Some ys → map p ys ≡ map q xs
each_map find p q h xs ys e =
    each_holds find (λ xs ys. map p ys ≡ map q xs) refl (λ x y xs ys at rest before. ap₂ (λ z zs. z ∷ zs) (h x y at) before) xs ys e

-- what was found was found for one of them
abbrev pub FoundFor : {X Y : Type 0} → (X → Option Y) → List X → Y → Type 0
FoundFor {X} {Y} find xs y = (x : X) × (Contains xs x × (find x ≡ Some y))

pub each_back : {X Y : Type 0} (find : X → Option Y) (xs : List X) (ys : List Y) → each find xs ≡ Some ys → (y : Y) → Contains ys y → FoundFor find xs y
each_back {X} {Y} find xs ys e =
    each_holds find (λ xs ys. (y : Y) → Contains ys y → FoundFor find xs y) (λ y c. absurd (Contains-none y c))
    (λ x z xs zs at rest before y c. next x z xs zs at before y (Contains-uncons z y zs c)) xs ys e
  where
    next : (x : X) (z : Y) (xs : List X) (zs : List Y) → find x ≡ Some z → ((y : Y) → Contains zs y → FoundFor find xs y) → (y : Y) → (z ≡ y) ⊎ Contains zs y → FoundFor find (x ∷ xs) y
    next x z xs zs at before y (inl s) = (x, (Contains-head x xs, at ∙ ap (λ v. Some v) s))
    next x z xs zs at before y (inr c) = let b = before y c in (b.0, (Contains-tail x b.0 xs b.1.0, b.1.1))

-- and what is found for one of them is among them
pub each_there : {X Y : Type 0} (find : X → Option Y) (xs : List X) (ys : List Y) → each find xs ≡ Some ys → (x : X) (y : Y) → Contains xs x → find x ≡ Some y → Contains ys y
each_there {X} {Y} find xs ys e =
    each_holds find (λ xs ys. (x : X) (y : Y) → Contains xs x → find x ≡ Some y → Contains ys y) (λ x y c g. absurd (Contains-none x c))
    (λ a z xs zs at rest before x y c g. next a z xs zs at before x y g (Contains-uncons a x xs c)) xs ys e
  where
    next : (a : X) (z : Y) (xs : List X) (zs : List Y) → find a ≡ Some z → ((x : X) (y : Y) → Contains xs x → find x ≡ Some y → Contains zs y) → (x : X) (y : Y) → find x ≡ Some y → (a ≡ x) ⊎ Contains xs x → Contains (z ∷ zs) y
    next a z xs zs at before x y g (inl s) = subst (λ v. Contains (z ∷ zs) v) (some_inj z y (sym at ∙ ap find s ∙ g)) (Contains-head z zs)
    next a z xs zs at before x y g (inr c) = Contains-tail z y zs (before x y c g)

each_append : {X Y : Type 0} (find : X → Option Y) (ws bs : List X) (cs ds : List Y) → each find ws ≡ Some cs → each find bs ≡ Some ds → each find (ws ++ bs) ≡ Some (cs ++ ds)
each_append find ws bs cs ds e g =
    each_holds find (λ ws cs. each find (ws ++ bs) ≡ Some (cs ++ ds)) g
    (λ x y xs ys at rest before. ap₂ (λ o u. o >>= λ found. u >>= λ others. Some (found ∷ others)) at before) ws cs e

each_flat : {X Y A B : Type 0} (find : X → Option Y) (inner : A → Option B) (there : X → List A) (here : Y → List B) → ((x : X) (y : Y) → find x ≡ Some y → each inner (there x) ≡ Some (here y))
    → (xs : List X) (ys : List Y) → each find xs ≡ Some ys → each inner (flat_map there xs) ≡ Some (flat_map here ys)
each_flat find inner there here h xs ys e =
    each_holds find (λ xs ys. each inner (flat_map there xs) ≡ Some (flat_map here ys)) refl
    (λ x y xs ys at rest before. each_append inner (there x) (flat_map there xs) (here y) (flat_map here ys) (h x y at) before) xs ys e

-- ---- places in lists that are looked up

module _ (find : ℕ → Option ℕ) (apart : (u v j : ℕ) → find u ≡ Some j → find v ≡ Some j → u ≡ v) where
  same_test : (x u y j : ℕ) → find x ≡ Some y → find u ≡ Some j → ((nat_eq x u ≡ true) × (x ≡ u)) ⊎ ((nat_eq x u ≡ false) × (x ≢ u)) → nat_eq y j ≡ nat_eq x u
  same_test x u y j at g (inl s) =
      let p : y ≡ j = some_inj y j (sym at ∙ ap find s.1 ∙ g) in
      subst (λ z. nat_eq z j ≡ true) (sym p) (self_eq j) ∙ sym s.0
  same_test x u y j at g (inr s) = ne_eqb y j (λ (p : y ≡ j). s.1 (apart x u j (at ∙ ap (λ z. Some z) p) g)) ∙ sym s.0

  -- a position stays
  pub each_place : (xs ys : List ℕ) → each find xs ≡ Some ys → (u j : ℕ) → find u ≡ Some j → place_in ys j ≡ place_in xs u
  each_place xs ys e u j g =
      each_holds find (λ xs ys. place_in ys j ≡ place_in xs u) refl
      (λ x y xs ys at rest before. ap₂ (λ (b : Bool) (o : Option ℕ). if b then Some 0 else option_map suc o) (same_test x u y j at g (eqb_tells x u)) before) xs ys e

-- ---- what types name

module _ (f : Lookup) where
  heap_named : (a b : HeapType ℕ) → named_heap f a ≡ Some b → each (f Types) (heap_names a) ≡ Some (heap_names b)
  heap_named (OfHeap x) b e = subst (λ c. Some [] ≡ Some (heap_names c)) (some_inj (OfHeap x) b e) refl
  heap_named (Concrete t) b e = one_found (λ c. each (f Types) (t ∷ []) ≡ Some (heap_names c)) (f Types t) (λ j. Concrete j) b (λ j at. ap (λ o. o >>= λ found. Some (found ∷ [])) at) e
  heap_named (Exact t) b e = one_found (λ c. each (f Types) (t ∷ []) ≡ Some (heap_names c)) (f Types t) (λ j. Exact j) b (λ j at. ap (λ o. o >>= λ found. Some (found ∷ [])) at) e

  val_named : (a b : ValType ℕ) → named_val f a ≡ Some b → each (named_heap f) (val_heaps a) ≡ Some (val_heaps b)
  val_named (Ref r) b e =
      one_found (λ c. each (named_heap f) (r.heap ∷ []) ≡ Some (val_heaps c)) (named_heap f r.heap) (λ heap. Ref (record { nullable = r.nullable; heap = heap })) b
      (λ h at. ap (λ o. o >>= λ found. Some (found ∷ [])) at) e
  val_named I32 b e = subst (λ c. Some [] ≡ Some (val_heaps c)) (some_inj I32 b e) refl
  val_named I64 b e = subst (λ c. Some [] ≡ Some (val_heaps c)) (some_inj I64 b e) refl
  val_named F32 b e = subst (λ c. Some [] ≡ Some (val_heaps c)) (some_inj F32 b e) refl
  val_named F64 b e = subst (λ c. Some [] ≡ Some (val_heaps c)) (some_inj F64 b e) refl
  val_named V128 b e = subst (λ c. Some [] ≡ Some (val_heaps c)) (some_inj V128 b e) refl

  vals_named : (ws bs : List (ValType ℕ)) → named_vals f ws ≡ Some bs → each (named_heap f) (flat_map val_heaps ws) ≡ Some (flat_map val_heaps bs)
  vals_named ws bs e = each_flat (named_val f) (named_heap f) val_heaps val_heaps val_named ws bs e

  storage_named : (a b : StorageType ℕ) → named_storage f a ≡ Some b → each (named_heap f) (storage_heaps a) ≡ Some (storage_heaps b)
  storage_named (Unpacked v) b e = one_found (λ c. each (named_heap f) (val_heaps v) ≡ Some (storage_heaps c)) (named_val f v) (λ w. Unpacked w) b (λ w at. val_named v w at) e
  storage_named I8 b e = subst (λ c. Some [] ≡ Some (storage_heaps c)) (some_inj I8 b e) refl
  storage_named I16 b e = subst (λ c. Some [] ≡ Some (storage_heaps c)) (some_inj I16 b e) refl

  field_named : (a b : FieldType ℕ) → named_field f a ≡ Some b → each (named_heap f) (field_heaps a) ≡ Some (field_heaps b)
  field_named a b e =
      one_found (λ c. each (named_heap f) (field_heaps a) ≡ Some (field_heaps c)) (named_storage f a.storage) (λ s. record { storage = s; mutable = a.mutable }) b (λ s at. storage_named a.storage s at) e

  comp_named : (a b : CompType ℕ) → named_comp f a ≡ Some b → each (named_heap f) (comp_heaps a) ≡ Some (comp_heaps b)
  comp_named (Func params results) b e =
      two_found (λ c. each (named_heap f) (flat_map val_heaps params ++ flat_map val_heaps results) ≡ Some (comp_heaps c)) (named_vals f params) (named_vals f results) (λ takes gives. Func takes gives) b
      (λ takes gives at_takes at_gives. each_append (named_heap f) (flat_map val_heaps params) (flat_map val_heaps results) (flat_map val_heaps takes) (flat_map val_heaps gives) (vals_named params takes at_takes) (vals_named results gives at_gives)) e
  comp_named (Struct fields) b e =
      one_found (λ c. each (named_heap f) (flat_map field_heaps fields) ≡ Some (comp_heaps c)) (named_fields f fields) (λ found. Struct found) b
      (λ found at. each_flat (named_field f) (named_heap f) field_heaps field_heaps field_named fields found at) e
  comp_named (Array element) b e =
      one_found (λ c. each (named_heap f) (field_heaps element) ≡ Some (comp_heaps c)) (named_field f element) (λ found. Array found) b (λ found at. field_named element found at) e

  -- the types that a composite type names, looked up
  pub names_named : (a b : CompType ℕ) → named_comp f a ≡ Some b → each (f Types) (comp_names a) ≡ Some (comp_names b)
  names_named a b e = each_flat (named_heap f) (f Types) heap_names heap_names heap_named (comp_heaps a) (comp_heaps b) (comp_named a b e)

  -- a function type stays one, and so does each other one
  pub function_named : (a b : CompType ℕ) → named_comp f a ≡ Some b → is_function_comp b ≡ is_function_comp a
  function_named (Func params results) b e = two_found (λ c. is_function_comp c ≡ true) (named_vals f params) (named_vals f results) (λ takes gives. Func takes gives) b (λ takes gives at_takes at_gives. refl) e
  function_named (Struct fields) b e = one_found (λ c. is_function_comp c ≡ false) (named_fields f fields) (λ found. Struct found) b (λ found at. refl) e
  function_named (Array element) b e = one_found (λ c. is_function_comp c ≡ false) (named_field f element) (λ found. Array found) b (λ found at. refl) e

  -- what a function takes, looked up
  pub params_named : (a b : CompType ℕ) → named_comp f a ≡ Some b → (types : List (ValType ℕ)) → comp_takes a ≡ Some types → map Some (type_params b) ≡ map (named_val f) types
  params_named (Func params results) b e types taken =
      two_found (λ c. map Some (type_params c) ≡ map (named_val f) types) (named_vals f params) (named_vals f results) (λ takes gives. Func takes gives) b
      (λ takes gives at_takes at_gives. each_map (named_val f) (λ v. Some v) (named_val f) (λ x y at. sym at) params takes at_takes ∙ ap (map (named_val f)) (some_inj params types taken)) e
  params_named (Struct fields) b e types taken = absurd (cc)
  params_named (Array element) b e types taken = absurd (cc)

  -- the parts of a type with its group, looked up
  pub record NamedDef (x y : TypeDef) : Type 0 where
    pub group : each (f Types) x.group ≡ Some y.group
    pub is_final : y.sub.is_final ≡ x.sub.is_final
    pub supertypes : each (f Types) x.sub.supertypes ≡ Some y.sub.supertypes
    pub comp : named_comp f x.sub.comp ≡ Some y.sub.comp

  pub def_parts : (x y : TypeDef) → named_def f x ≡ Some y → NamedDef x y
  def_parts x y e =
      two_found (λ z. NamedDef x z) (named_types f x.group) (named_sub f x.sub) (λ group sub. record { group = group; sub = sub }) y
      (λ group sub at_group at_sub. two_found (λ s. NamedDef x (record { group = group; sub = s })) (named_types f x.sub.supertypes) (named_comp f x.sub.comp)
      (λ supertypes comp. record { is_final = x.sub.is_final; supertypes = supertypes; comp = comp }) sub
      (λ supertypes comp at_supertypes at_comp. record { group = at_group; is_final = refl; supertypes = at_supertypes; comp = at_comp }) at_sub) e

-- ---- types as something else sees them

module _ (f : Lookup) {R S : Type 0} (p : ℕ → S) (q : R → S) (s : ℕ → R) (H : (u j : ℕ) → f Types u ≡ Some j → p j ≡ q (s u)) where
  heap_seen : (a b : HeapType ℕ) → named_heap f a ≡ Some b → map_heap p b ≡ map_heap q (map_heap s a)
  heap_seen (OfHeap x) b e = subst (λ c. map_heap p c ≡ OfHeap x) (some_inj (OfHeap x) b e) refl
  heap_seen (Concrete t) b e = one_found (λ c. map_heap p c ≡ Concrete (q (s t))) (f Types t) (λ j. Concrete j) b (λ j at. ap (λ z. Concrete z) (H t j at)) e
  heap_seen (Exact t) b e = one_found (λ c. map_heap p c ≡ Exact (q (s t))) (f Types t) (λ j. Exact j) b (λ j at. ap (λ z. Exact z) (H t j at)) e

  val_seen : (a b : ValType ℕ) → named_val f a ≡ Some b → map_val p b ≡ map_val q (map_val s a)
  val_seen (Ref r) b e =
      one_found (λ c. map_val p c ≡ map_val q (map_val s (Ref r))) (named_heap f r.heap) (λ heap. Ref (record { nullable = r.nullable; heap = heap })) b
      (λ h at. ap (λ z. Ref (record { nullable = r.nullable; heap = z })) (heap_seen r.heap h at)) e
  val_seen I32 b e = subst (λ c. map_val p c ≡ I32) (some_inj I32 b e) refl
  val_seen I64 b e = subst (λ c. map_val p c ≡ I64) (some_inj I64 b e) refl
  val_seen F32 b e = subst (λ c. map_val p c ≡ F32) (some_inj F32 b e) refl
  val_seen F64 b e = subst (λ c. map_val p c ≡ F64) (some_inj F64 b e) refl
  val_seen V128 b e = subst (λ c. map_val p c ≡ V128) (some_inj V128 b e) refl

  vals_seen : (ws bs : List (ValType ℕ)) → named_vals f ws ≡ Some bs → map (map_val p) bs ≡ map (map_val q) (map (map_val s) ws)
  vals_seen ws bs e = each_map (named_val f) (map_val p) (λ v. map_val q (map_val s v)) val_seen ws bs e ∙ map_after (map_val s) (map_val q) ws

  storage_seen : (a b : StorageType ℕ) → named_storage f a ≡ Some b → map_storage p b ≡ map_storage q (map_storage s a)
  storage_seen (Unpacked v) b e = one_found (λ c. map_storage p c ≡ map_storage q (map_storage s (Unpacked v))) (named_val f v) (λ w. Unpacked w) b (λ w at. ap (λ z. Unpacked z) (val_seen v w at)) e
  storage_seen I8 b e = subst (λ c. map_storage p c ≡ I8) (some_inj I8 b e) refl
  storage_seen I16 b e = subst (λ c. map_storage p c ≡ I16) (some_inj I16 b e) refl

  field_seen : (a b : FieldType ℕ) → named_field f a ≡ Some b → map_field p b ≡ map_field q (map_field s a)
  field_seen a b e =
      one_found (λ c. map_field p c ≡ map_field q (map_field s a)) (named_storage f a.storage) (λ t. record { storage = t; mutable = a.mutable }) b
      (λ t at. ap (λ z. record { storage = z; mutable = a.mutable }) (storage_seen a.storage t at)) e

  comp_seen : (a b : CompType ℕ) → named_comp f a ≡ Some b → map_comp p b ≡ map_comp q (map_comp s a)
  comp_seen (Func params results) b e =
      two_found (λ c. map_comp p c ≡ map_comp q (map_comp s (Func params results))) (named_vals f params) (named_vals f results) (λ takes gives. Func takes gives) b
      (λ takes gives at_takes at_gives. ap₂ (λ x y. Func x y) (vals_seen params takes at_takes) (vals_seen results gives at_gives)) e
  comp_seen (Struct fields) b e =
      one_found (λ c. map_comp p c ≡ map_comp q (map_comp s (Struct fields))) (named_fields f fields) (λ found. Struct found) b
      (λ found at. ap (λ z. Struct z) (each_map (named_field f) (map_field p) (λ v. map_field q (map_field s v)) field_seen fields found at ∙ map_after (map_field s) (map_field q) fields)) e
  comp_seen (Array element) b e =
      one_found (λ c. map_comp p c ≡ map_comp q (map_comp s (Array element))) (named_field f element) (λ found. Array found) b (λ found at. ap (λ z. Array z) (field_seen element found at)) e

  pub sub_seen : (x y : TypeDef) → NamedDef f x y → map_sub p y.sub ≡ map_sub q (map_sub s x.sub)
  sub_seen x y n =
      ap (λ b. record { is_final = b; supertypes = map p y.sub.supertypes; comp = map_comp p y.sub.comp }) n.is_final
      ∙ ap₂ (λ us c. record { is_final = x.sub.is_final; supertypes = us; comp = c })
      (each_map (f Types) p (λ u. q (s u)) H x.sub.supertypes y.sub.supertypes n.supertypes ∙ map_after s q x.sub.supertypes)
      (comp_seen x.sub.comp y.sub.comp n.comp)

-- ---- a type in its group

module _ (f : Lookup) (r : ℕ → ℕ) (renames : (u j : ℕ) → f Types u ≡ Some j → j ≡ r u) (apart : (u v j : ℕ) → f Types u ≡ Some j → f Types v ≡ Some j → u ≡ v) where
  by_place : (o : Option ℕ) (u j : ℕ) → j ≡ r u → seen_at o j ≡ others_through r (seen_at o u)
  by_place (Some k) u j e = refl
  by_place None u j e = ap (λ z. Other z) e

  -- the type as it stands in its group is the same, with the other types put through the renaming
  pub same_in_group : (x y : TypeDef) → NamedDef f x y → in_its_group y ≡ map_sub (others_through r) (in_its_group x)
  same_in_group x y n =
      sub_seen f (seen_from y.group) (others_through r) (seen_from x.group)
      (λ u j at. ap (λ o. seen_at o j) (each_place (f Types) apart x.group y.group n.group u j at) ∙ by_place (place_in x.group u) u j (renames u j at)) x y n

  pub group_renamed : (x y : TypeDef) → NamedDef f x y → y.group ≡ map r x.group
  group_renamed x y n = sym (kept y.group) ∙ each_map (f Types) (λ j. j) r renames x.group y.group n.group
    where
      kept : (xs : List ℕ) → map (λ (j : ℕ). j) xs ≡ xs
      kept [] = refl
      kept (x ∷ xs) = ap (λ l. x ∷ l) (kept xs)
