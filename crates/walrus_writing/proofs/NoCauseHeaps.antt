-- No exact heap type stands in what is written.
use Rattle.std.proofs.Common.{◌≡◌, ℕ, true, inl, inr, ⊎_elim, List, [], ◌∷◌, ◌++◌, map, refl, sym, ap, ap₂, ◌∙◌, subst, Some, None}
use Rattle.std.specs.Prelude.{Option, IsSome, Contains, flat_map, option_map, slice_get}
use Rattle.std.specs.List.{AllByRecursion}
use Rattle.std.proofs.lemmas.List.Elements.{Contains-append_cases}
use Rattle.wasm_forms.specs.Reading.{◌>>=◌}
use Rattle.wasm_forms.proofs.Bind.{some_same, bind_some}
use Rattle.walrus_base.specs.Types.{HeapType, OfHeap, Concrete, Exact, ValType, I32, I64, F32, F64, V128, Ref, StorageType, Unpacked, I8, I16, FieldType, CompType, Func, Struct, Array, IsNotExact, val_heaps, storage_heaps, field_heaps, comp_heaps}
use Rattle.walrus_base.specs.Operators.{Types, Functions, Tables, Memories, Tags, Globals, Elements, DataSegments, Item, Op}
use Rattle.walrus_base.specs.TypeDef.{TypeDef, type_params}
use Rattle.walrus_code.specs.FromRaw.{ops_of}
use Rattle.walrus_code.specs.Names.{Lookup, named_heap, named_val}
use Rattle.walrus_functions.specs.Handlers.{params_of}
use Rattle.walrus_bodies.proofs.LawNamed.{HasIndex, ops_found, each_append as all_append}
use Rattle.walrus_groups.specs.Groups.{types_from}
use Rattle.walrus_groups.specs.Named.{each, named_vals, named_storage, named_field, named_fields, named_comp}
use Rattle.walrus_contents.specs.View.{parts_view}
use Rattle.walrus_contents.specs.declared.parts.Parts.{Parts}
use Rattle.walrus_base.proofs.Lookups.{got_map, mapped_some, mapped_append}
use Rattle.walrus_model.specs.Abstract.{Abstract, Body, DataKind, PassiveData, ActiveData, DataSegment, ElementKind, PassiveElements, DeclaredElements, ActiveElements, ElementItems, ListedFunctions, Expressions, Element, Function, Global, Table, FunctionKind, LocalFunction, ImportedFunction, Uninitialised}
use Rattle.walrus_model.specs.Config.{Config}
use Rattle.walrus_model.specs.Refers.{used_locals}
use Rattle.walrus_model.specs.WellMade.{heaps_by, heaps_in, consts_by, consts_in, data_kind_consts, element_kind_consts, element_item_consts, element_item_heaps, option_consts, op_heaps, body_heaps, kind_heaps}
use Rattle.walrus_base.proofs.Lists.{Contains-none, Contains-uncons}
use Rattle.walrus_base.proofs.Standing.{got_in, some_inj}
use Rattle.walrus_theorem.specs.Features.{features_of}
use Rattle.walrus_theorem.specs.WellMade.{IsWellFormed}
use Rattle.walrus_model.proofs.PlainBodies.{ops_named, types_named}
use Rattle.walrus_model.proofs.PlainTypes.{Plain, plain_append, plain_left, plain_right, types_plain, TypePlain, ValsPlain}
use Rattle.walrus_constants.specs.Written.{IsUnspelled, ExactHeap, NoOperator}
use Rattle.walrus_code.specs.Results.{heap_is_exact, val_is_exact}
use Rattle.walrus_writing.specs.Elements as elements
use Rattle.walrus_writing.specs.Globals as globals
use Rattle.walrus_writing.specs.Records.{Records}
use Rattle.walrus_writing.specs.Segments.{KindIsUnspelled, UnspelledOffset}
use Rattle.walrus_writing.specs.Tables as tables
use Rattle.walrus_model.proofs.Indices.{planned_named}
use Rattle.walrus_writing.proofs.NoCauseBodies.{formed}
use Rattle.walrus_writing.proofs.TypesEntered.{type_entry}
use Rattle.walrus_model.proofs.Parsing.{each_in}
use Rattle.walrus_theorem.proofs.SpelledReads.{all_such as each_follows}

-- ---- heap types one behind another

module _ {A : Type 0} (f : A → List (HeapType ℕ)) where
  apart : (xs : List A) → Plain (flat_map f xs) → AllByRecursion (λ (x : A). Plain (f x)) xs
  apart [] h = tt
  apart (x ∷ xs) h = (plain_left (f x) (flat_map f xs) h, apart xs (plain_right (f x) (flat_map f xs) h))

  together : (xs : List A) → AllByRecursion (λ (x : A). Plain (f x)) xs → Plain (flat_map f xs)
  together [] h = tt
  together (x ∷ xs) h = plain_append (f x) (flat_map f xs) h.0 (together xs h.1)

-- what is looked up item by item
each_back : {X Y : Type 0} (find : X → Option Y) (P : X → Type 0) (Q : Y → Type 0) → ((x : X) (y : Y) → find x ≡ Some y → Q y → P x) → (xs : List X) (ys : List Y) → each find xs ≡ Some ys → AllByRecursion Q ys → AllByRecursion P xs
each_back find P Q law [] ys e h = tt
each_back find P Q law (x ∷ xs) ys e h =
    let y = bind_some (find x) (λ found. each find xs >>= λ others. Some (found ∷ others)) ys e in
    let z = bind_some (each find xs) (λ others. Some (y.0 ∷ others)) ys y.2 in
    let all = subst (AllByRecursion Q) (sym (some_same (y.0 ∷ z.0) ys z.2)) h in
    (law x y.0 y.1 all.0, each_back find P Q law xs z.0 z.1 all.1)

-- ---- where nothing exact stands behind a look-up, nothing exact stood before it

module _ (names : Lookup) where
  heap_back : (h k : HeapType ℕ) → named_heap names h ≡ Some k → IsNotExact k → IsNotExact h
  heap_back (OfHeap b) k e n = tt
  heap_back (Concrete t) k e n = tt
  heap_back (Exact t) k e n =
      let x = bind_some (names Types t) (λ found. Some (Exact found)) k e in
      subst (λ (z : HeapType ℕ). IsNotExact z) (sym (some_same (Exact x.0) k x.2)) n

  val_back : (v w : ValType ℕ) → named_val names v ≡ Some w → Plain (val_heaps w) → Plain (val_heaps v)
  val_back (Ref r) w e n =
      let x = bind_some (named_heap names r.heap) (λ heap. Some (Ref (record { nullable = r.nullable; heap = heap }))) w e in
      let one = subst (λ (z : ValType ℕ). Plain (val_heaps z)) (sym (some_same _ w x.2)) n in
      (heap_back r.heap x.0 x.1 one.0, tt)
  val_back I32 w e n = tt
  val_back I64 w e n = tt
  val_back F32 w e n = tt
  val_back F64 w e n = tt
  val_back V128 w e n = tt

  vals_back : (vs ws : List (ValType ℕ)) → named_vals names vs ≡ Some ws → Plain (flat_map val_heaps ws) → Plain (flat_map val_heaps vs)
  vals_back vs ws e n = together val_heaps vs (each_back (named_val names) (λ v. Plain (val_heaps v)) (λ v. Plain (val_heaps v)) val_back vs ws e (apart val_heaps ws n))

  storage_back : (s t : StorageType ℕ) → named_storage names s ≡ Some t → Plain (storage_heaps t) → Plain (storage_heaps s)
  storage_back (Unpacked v) t e n =
      let x = bind_some (named_val names v) (λ found. Some (Unpacked found)) t e in
      val_back v x.0 x.1 (subst (λ (z : StorageType ℕ). Plain (storage_heaps z)) (sym (some_same (Unpacked x.0) t x.2)) n)
  storage_back I8 t e n = tt
  storage_back I16 t e n = tt

  field_back : (f g : FieldType ℕ) → named_field names f ≡ Some g → Plain (field_heaps g) → Plain (field_heaps f)
  field_back f g e n =
      let x = bind_some (named_storage names f.storage) (λ storage. let made : FieldType ℕ = record { storage = storage; mutable = f.mutable } in Some made) g e in
      storage_back f.storage x.0 x.1 (subst (λ (z : FieldType ℕ). Plain (field_heaps z)) (sym (some_same _ g x.2)) n)

  comp_back : (k l : CompType ℕ) → named_comp names k ≡ Some l → Plain (comp_heaps l) → Plain (comp_heaps k)
  comp_back (Func params results) l e n =
      let x = bind_some (named_vals names params) (λ takes. named_vals names results >>= λ gives. Some (Func takes gives)) l e in
      let y = bind_some (named_vals names results) (λ gives. Some (Func x.0 gives)) l x.2 in
      let both = subst (λ (z : CompType ℕ). Plain (comp_heaps z)) (sym (some_same (Func x.0 y.0) l y.2)) n in
      plain_append (flat_map val_heaps params) (flat_map val_heaps results)
      (vals_back params x.0 x.1 (plain_left (flat_map val_heaps x.0) (flat_map val_heaps y.0) both))
      (vals_back results y.0 y.1 (plain_right (flat_map val_heaps x.0) (flat_map val_heaps y.0) both))
  comp_back (Struct fields) l e n =
      let x = bind_some (named_fields names fields) (λ found. Some (Struct found)) l e in
      let all = subst (λ (z : CompType ℕ). Plain (comp_heaps z)) (sym (some_same (Struct x.0) l x.2)) n in
      together field_heaps fields (each_back (named_field names) (λ f. Plain (field_heaps f)) (λ f. Plain (field_heaps f)) field_back fields x.0 x.1 (apart field_heaps x.0 all))
  comp_back (Array element) l e n =
      let x = bind_some (named_field names element) (λ found. Some (Array found)) l e in
      field_back element x.0 x.1 (subst (λ (z : CompType ℕ). Plain (comp_heaps z)) (sym (some_same (Array x.0) l x.2)) n)

-- ---- a body that is well formed

option_plain : (o : Option TypeDef) → ((x : TypeDef) → o ≡ Some x → TypePlain x) → ValsPlain (params_of o)
option_plain None h = tt
option_plain (Some x) h = by x.sub.comp (h x refl)
  where
    by : (k : CompType ℕ) → Plain (comp_heaps k) → ValsPlain (type_params k)
    by (Func params results) n = plain_left (flat_map val_heaps params) (flat_map val_heaps results) n
    by (Struct fields) n = tt
    by (Array element) n = tt

module _ (c : Config) (v : Abstract) (types : (i : ℕ) (x : TypeDef) → v.types i ≡ Some x → TypePlain x) (ty : ℕ) (b : Body) (w : IsWellFormed c v ty b) where
  abbrev all_types : List (ValType ℕ)
  all_types = params_of (v.types ty) ++ w.types

  typed : map b.local_type (b.parameters ++ w.further) ≡ map Some all_types
  typed = mapped_append b.local_type b.parameters w.further ∙ ap₂ (λ (xs ys : List (Option (ValType ℕ))). xs ++ ys) w.typed (sym w.further_typed) ∙ sym (mapped_append (λ (x : ValType ℕ). Some x) (params_of (v.types ty)) w.types)

  each_plain : AllByRecursion (λ (x : ValType ℕ). Plain (val_heaps x)) all_types
  each_plain = all_append (λ (x : ValType ℕ). Plain (val_heaps x)) (params_of (v.types ty)) w.types
      (apart val_heaps (params_of (v.types ty)) (option_plain (v.types ty) (types ty)))
      (apart val_heaps w.types (types_named w.names w.read.declared w.types w.read.typed))

  -- a local that has an index
  local_plain : (x : ℕ) → HasIndex w.names (slice_get (b.parameters ++ w.further)) x → Plain (heaps_by val_heaps (b.local_type x))
  local_plain x (n, at) =
      let there : option_map (λ (y : ValType ℕ). Some y) (slice_get all_types n) ≡ Some (b.local_type x) =
      sym (got_map (λ (y : ValType ℕ). Some y) all_types n) ∙ ap (λ (l : List (Option (ValType ℕ))). slice_get l n) (sym typed) ∙ got_map b.local_type (b.parameters ++ w.further) n ∙ ap (option_map b.local_type) at in
      let y = mapped_some (λ (y : ValType ℕ). Some y) (slice_get all_types n) (b.local_type x) there in
      let g = got_in all_types n y.0 y.1 in
      subst (λ (o : Option (ValType ℕ)). Plain (heaps_by val_heaps o)) (sym y.2) (each_in (λ (z : ValType ℕ). Plain (val_heaps z)) all_types y.0 each_plain (n, g.0, g.1 y.0))

  pub body_plain : Plain (body_heaps b)
  body_plain =
      plain_append (flat_map op_heaps b.operators) (flat_map (λ x. heaps_by val_heaps (b.local_type x)) (used_locals b))
      (ops_named w.names (slice_get (b.parameters ++ w.further)) w.read.operators.texts b.operators w.read.operators.named)
      (together (λ x. heaps_by val_heaps (b.local_type x)) (used_locals b)
      (each_follows (HasIndex w.names (slice_get (b.parameters ++ w.further))) (λ x. Plain (heaps_by val_heaps (b.local_type x))) local_plain (used_locals b)
      (ops_found w.names (slice_get (b.parameters ++ w.further)) (ops_of w.read.operators.texts) b.operators w.read.operators.named)))

-- ---- all of it

module _ (c : Config) (p : Parts) (r : Records p (features_of c)) where
  abbrev V : Abstract
  V = parts_view p

  type_plain : (i : ℕ) (x : TypeDef) → V.types i ≡ Some x → TypePlain x
  type_plain i x at =
      let z = type_entry r i _ (planned_named r.numbered r.is_plan Types i (subst (λ (o : Option TypeDef). IsSome o) (sym at) refl)) in
      let same : z.old ≡ x = some_inj z.old x (sym z.is ∙ at) in
      let g = got_in (types_from 0 r.types) _ z.new z.at in
      subst TypePlain same (comp_back r.names z.old.sub.comp z.new.sub.comp z.named.comp (each_in TypePlain (types_from 0 r.types) z.new (types_plain 0 r.types) (_, g.0, g.1 z.new)))

  types_are_plain : (o : Option TypeDef) → ((x : TypeDef) → o ≡ Some x → TypePlain x) → Plain (heaps_by (λ (t : TypeDef). comp_heaps t.sub.comp) o)
  types_are_plain None h = tt
  types_are_plain (Some x) h = h x refl

  kind_plain : (i : ℕ) (f : Function) (k : FunctionKind) → V.functions i ≡ Some f → f.kind ≡ k → Plain (kind_heaps k)
  kind_plain i f (LocalFunction b) at is = body_plain c V type_plain f.ty b (formed c p r i f b at is)
  kind_plain i f (ImportedFunction n) at is = tt
  kind_plain i f Uninitialised at is = tt

  function_plain : (i : ℕ) (o : Option Function) → V.functions i ≡ o → Plain (heaps_by (λ (f : Function). kind_heaps f.kind) o)
  function_plain i None at = tt
  function_plain i (Some f) at = kind_plain i f f.kind at refl

  heap_plain : (h : HeapType ℕ) → (heap_is_exact h ≡ true → ⊥) → IsNotExact h
  heap_plain (OfHeap b) not = tt
  heap_plain (Concrete t) not = tt
  heap_plain (Exact t) not = absurd (not refl)

  val_plain : (v : ValType ℕ) → (val_is_exact v ≡ true → ⊥) → Plain (val_heaps v)
  val_plain (Ref ref) not = (heap_plain ref.heap not, tt)
  val_plain I32 not = tt
  val_plain I64 not = tt
  val_plain F32 not = tt
  val_plain F64 not = tt
  val_plain V128 not = tt

  table_plain : (i : ℕ) (o : Option Table) → V.tables i ≡ o → Plain (heaps_by (λ (t : Table). t.ty.element.heap ∷ []) o)
  table_plain i None at = tt
  table_plain i (Some t) at = (heap_plain t.ty.element.heap (λ exact. r.tables_spelled i t at (tables.ExactElement exact)), tt)

  global_plain : (i : ℕ) (o : Option Global) → V.globals i ≡ o → Plain (heaps_by (λ (g : Global). val_heaps g.ty.value) o)
  global_plain i None at = tt
  global_plain i (Some g) at = val_plain g.ty.value (λ exact. r.globals_spelled i g at (globals.ExactValue exact))

  held_plain : (x : ElementItems) → (elements.ItemsAreUnspelled x → ⊥) → Plain (element_item_heaps x)
  held_plain (ListedFunctions fs) h = tt
  held_plain (Expressions ty es) h = (heap_plain ty.heap (λ exact. h (elements.ExactItems ty es refl exact)), tt)

  element_plain : (i : ℕ) (o : Option Element) → V.elements i ≡ o → Plain (heaps_by (λ (e : Element). element_item_heaps e.items) o)
  element_plain i None at = tt
  element_plain i (Some e) at = held_plain e.items (λ is. r.elements_spelled i e at (inr is))

  item_plain : (x : Item) → Plain (heaps_in V x)
  item_plain (Types, i) = types_are_plain (V.types i) (type_plain i)
  item_plain (Functions, i) = function_plain i (V.functions i) refl
  item_plain (Tables, i) = table_plain i (V.tables i) refl
  item_plain (Memories, i) = tt
  item_plain (Tags, i) = tt
  item_plain (Globals, i) = global_plain i (V.globals i) refl
  item_plain (Elements, i) = element_plain i (V.elements i) refl
  item_plain (DataSegments, i) = tt

  pub not_exact : (x : Item) (h : HeapType ℕ) → Contains (heaps_in V x) h → IsNotExact h
  not_exact x h at = each_in (λ (k : HeapType ℕ). IsNotExact k) (heaps_in V x) h (item_plain x) at

  -- ---- constant expressions

  -- those of an item, of which none is unspelled
  abbrev Spelled : List (List Op) → Type 0
  Spelled all = (ops : List Op) → Contains all ops → IsUnspelled ops → ⊥

  none_spelled : Spelled []
  none_spelled ops at = absurd (Contains-none ops at)

  initialiser_spelled : (i : Option (List Op)) → ((ops : List Op) → i ≡ Some ops → IsUnspelled ops → ⊥) → Spelled (option_consts i)
  initialiser_spelled None h = none_spelled
  initialiser_spelled (Some all) h = λ ops at. ⊎_elim (λ (e : all ≡ ops). h ops (ap (λ (l : List Op). Some l) e)) (λ none. absurd (Contains-none ops none)) (Contains-uncons all ops [] at)

  table_spelled : (i : ℕ) (o : Option Table) → V.tables i ≡ o → Spelled (consts_by (λ t. option_consts t.initialiser) o)
  table_spelled i None at = none_spelled
  table_spelled i (Some t) at = initialiser_spelled t.initialiser (λ ops is u. r.tables_spelled i t at (tables.UnspelledInitialiser ops is u))

  global_spelled : (i : ℕ) (o : Option Global) → V.globals i ≡ o → Spelled (consts_by (λ g. option_consts g.initialiser) o)
  global_spelled i None at = none_spelled
  global_spelled i (Some g) at = initialiser_spelled g.initialiser (λ ops is u. r.globals_spelled i g at (globals.UnspelledInitialiser ops is u))

  offset_spelled : (k : DataKind) → (KindIsUnspelled k → ⊥) → Spelled (data_kind_consts k)
  offset_spelled PassiveData h = none_spelled
  offset_spelled (ActiveData memory offset) h = λ ops at. ⊎_elim
      (λ (e : offset ≡ ops). λ unspelled. h (UnspelledOffset memory offset refl (subst IsUnspelled (sym e) unspelled)))
      (λ none. absurd (Contains-none ops none))
      (Contains-uncons offset ops [] at)

  element_offset_spelled : (k : ElementKind) → (elements.KindIsUnspelled k → ⊥) → Spelled (element_kind_consts k)
  element_offset_spelled PassiveElements h = none_spelled
  element_offset_spelled DeclaredElements h = none_spelled
  element_offset_spelled (ActiveElements table offset) h = λ ops at. ⊎_elim
      (λ (e : offset ≡ ops). λ unspelled. h (elements.UnspelledOffset table offset refl (subst IsUnspelled (sym e) unspelled)))
      (λ none. absurd (Contains-none ops none))
      (Contains-uncons offset ops [] at)

  held_spelled : (x : ElementItems) → (elements.ItemsAreUnspelled x → ⊥) → Spelled (element_item_consts x)
  held_spelled (ListedFunctions fs) h = none_spelled
  held_spelled (Expressions ty es) h = λ ops at unspelled. h (elements.UnspelledItem ty es ops refl at unspelled)

  both_spelled : (xs ys : List (List Op)) → Spelled xs → Spelled ys → Spelled (xs ++ ys)
  both_spelled xs ys first second = λ ops at. ⊎_elim (first ops) (second ops) (Contains-append_cases xs ys ops at)

  element_spelled : (i : ℕ) (o : Option Element) → V.elements i ≡ o → Spelled (consts_by (λ e. element_kind_consts e.kind ++ element_item_consts e.items) o)
  element_spelled i None at = none_spelled
  element_spelled i (Some e) at =
      both_spelled (element_kind_consts e.kind) (element_item_consts e.items)
      (element_offset_spelled e.kind (λ is. r.elements_spelled i e at (inl is)))
      (held_spelled e.items (λ is. r.elements_spelled i e at (inr is)))

  segment_spelled : (i : ℕ) (o : Option DataSegment) → V.data_segments i ≡ o → Spelled (consts_by (λ d. data_kind_consts d.kind) o)
  segment_spelled i None at = none_spelled
  segment_spelled i (Some d) at = offset_spelled d.kind (r.data_segments_spelled i d at)

  const_spelled : (x : Item) → Spelled (consts_in V x)
  const_spelled (Types, i) = none_spelled
  const_spelled (Functions, i) = none_spelled
  const_spelled (Tables, i) = table_spelled i (V.tables i) refl
  const_spelled (Memories, i) = none_spelled
  const_spelled (Tags, i) = none_spelled
  const_spelled (Globals, i) = global_spelled i (V.globals i) refl
  const_spelled (Elements, i) = element_spelled i (V.elements i) refl
  const_spelled (DataSegments, i) = segment_spelled i (V.data_segments i) refl

  pub const_not_exact : (x : Item) (ops : List Op) (h : HeapType ℕ) → Contains (consts_in V x) ops → Contains (flat_map op_heaps ops) h → (IsNotExact h → ⊥) → ⊥
  const_not_exact x ops h at has not = const_spelled x ops at (ExactHeap h has not)

  pub not_empty : (x : Item) → Contains (consts_in V x) [] → ⊥
  not_empty x at = const_spelled x [] at (NoOperator refl)
