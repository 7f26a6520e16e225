-- Two renamings that agree on what a record names make one record of it.
use Rattle.std.proofs.Common.{◌≡◌, ℕ, List, [], ◌∷◌, ◌++◌, map, refl, ap, ap₂, ◌∙◌}
use Rattle.std.specs.Prelude.{flat_map, Contains, Option, Some, None, option_map}
use Rattle.walrus_base.specs.Types.{HeapType, ValType, RefType, heap_names, val_names, map_heap, map_ref, map_val}
use Rattle.walrus_base.specs.Operators.{Types, Functions, Tables, Memories, Item, type_item, function_item, BlockType, NoResult, OneResult, OfType, block_names, Arg, Index, Label, Local, Number, Count, Byte, S32, S64, Bits32, Bits64, Value, Heap, Block, Access, Op, arg_names, arg_locals, op_names, op_locals, names_of, locals_of}
use Rattle.walrus_model.specs.Abstract.{TypeDef, Origin, ImportedBy, Defined, Table, Memory, Tag, Global, ElementKind, PassiveElements, DeclaredElements, ActiveElements, ElementItems, ListedFunctions, Expressions, Element, DataKind, PassiveData, ActiveData, DataSegment, Import, Export}
use Rattle.walrus_model.specs.Refers.{named_by, type_names, table_names, tag_names, global_names, element_kind_names, element_item_names, element_names, data_kind_names, data_names}
use Rattle.walrus_model.specs.WellMade.{origin_import}
use Rattle.walrus_model.specs.Renaming.{Renaming, renamed, renamed_block, renamed_arg, renamed_op, renamed_ops, renamed_const, renamed_origin, renamed_table, renamed_memory, renamed_tag, renamed_global, renamed_element_kind, renamed_element_items, renamed_element, renamed_data_kind, renamed_data, renamed_import, renamed_export}
use Rattle.walrus_base.proofs.Lists.{map-same_on, Contains-head, Contains-tail, Contains-map, Contains-append_1, Contains-append_2}
use Rattle.walrus_model.proofs.TypeRules.{Contains-flat_map}
use Rattle.walrus_model.proofs.TypesAlike.{heap_alike, ref_alike, val_alike}

module _ (r s : Renaming) where
  -- both give one number
  abbrev pub One : Item → Type 0
  One x = r.numbers x.0 x.1 ≡ s.numbers x.0 x.1

  abbrev pub On : List Item → Type 0
  On xs = (x : Item) → Contains xs x → One x

  pub on_1 : (xs ys : List Item) → On (xs ++ ys) → On xs
  on_1 xs ys on x at = on x (Contains-append_1 x xs ys at)

  pub on_2 : (xs ys : List Item) → On (xs ++ ys) → On ys
  on_2 xs ys on x at = on x (Contains-append_2 x xs ys at)

  pub on_head : (x : Item) (xs : List Item) → On (x ∷ xs) → One x
  on_head x xs on = on x (Contains-head x xs)

  pub on_tail : (x : Item) (xs : List Item) → On (x ∷ xs) → On xs
  on_tail x xs on y at = on y (Contains-tail x y xs at)

  pub on_types : (ts : List ℕ) → On (map type_item ts) → (t : ℕ) → Contains ts t → r.numbers Types t ≡ s.numbers Types t
  on_types ts on t at = on (type_item t) (Contains-map type_item t ts at)

  pub item_alike : (x : Item) → One x → renamed r x ≡ renamed s x
  item_alike x e = ap (λ (n : ℕ). (x.0, n)) e

  heap_one : (h : HeapType ℕ) → On (map type_item (heap_names h)) → map_heap (r.numbers Types) h ≡ map_heap (s.numbers Types) h
  heap_one h on = heap_alike (r.numbers Types) (s.numbers Types) h (on_types (heap_names h) on)

  ref_one : (h : RefType ℕ) → On (map type_item (heap_names h.heap)) → map_ref (r.numbers Types) h ≡ map_ref (s.numbers Types) h
  ref_one h on = ref_alike (r.numbers Types) (s.numbers Types) h (on_types (heap_names h.heap) on)

  pub val_one : (v : ValType ℕ) → On (map type_item (val_names v)) → map_val (r.numbers Types) v ≡ map_val (s.numbers Types) v
  val_one v on = val_alike (r.numbers Types) (s.numbers Types) v (on_types (val_names v) on)

  block_one : (b : BlockType) → On (map type_item (block_names b)) → renamed_block r b ≡ renamed_block s b
  block_one NoResult on = refl
  block_one (OneResult v) on = ap OneResult (val_one v on)
  block_one (OfType t) on = ap OfType (on_head (type_item t) [] on)

  module _ (l k : ℕ → ℕ) where
    abbrev pub OnLocals : List ℕ → Type 0
    OnLocals xs = (x : ℕ) → Contains xs x → l x ≡ k x

    arg_one : (a : Arg) → On (arg_names a) → OnLocals (arg_locals a) → renamed_arg r l a ≡ renamed_arg s k a
    arg_one (Index x) on locals = ap Index (item_alike x (on_head x [] on))
    arg_one (Local x) on locals = ap Local (locals x (Contains-head x []))
    arg_one (Value v) on locals = ap Value (val_one v on)
    arg_one (Heap h) on locals = ap Heap (heap_one h on)
    arg_one (Block b) on locals = ap Block (block_one b on)
    arg_one (Access flags memory offset) on locals = ap (λ n. Access flags n offset) (on_head (Memories, memory) [] on)
    arg_one (Label n) on locals = refl
    arg_one (Number n) on locals = refl
    arg_one (Count n) on locals = refl
    arg_one (Byte n) on locals = refl
    arg_one (S32 n) on locals = refl
    arg_one (S64 n) on locals = refl
    arg_one (Bits32 n) on locals = refl
    arg_one (Bits64 n) on locals = refl

    op_one : (o : Op) → On (op_names o) → OnLocals (op_locals o) → renamed_op r l o ≡ renamed_op s k o
    op_one o on locals = ap (λ args. record { op = o.op; args = args })
        (map-same_on (renamed_arg r l) (renamed_arg s k) o.args (λ a at. arg_one a
        (λ x has. on x (Contains-flat_map arg_names o.args a x at has))
        (λ x has. locals x (Contains-flat_map arg_locals o.args a x at has))))

    pub ops_one : (ops : List Op) → On (names_of ops) → OnLocals (locals_of ops) → renamed_ops r l ops ≡ renamed_ops s k ops
    ops_one ops on locals = map-same_on (renamed_op r l) (renamed_op s k) ops (λ o at. op_one o
        (λ x has. on x (Contains-flat_map op_names ops o x at has))
        (λ x has. locals x (Contains-flat_map op_locals ops o x at has)))

  pub const_one : (ops : List Op) → On (names_of ops) → renamed_const r ops ≡ renamed_const s ops
  const_one ops on = ops_one (λ x. x) (λ x. x) ops on (λ x at. refl)

  initialiser_one : (o : Option (List Op)) → On (named_by names_of o) → option_map (renamed_const r) o ≡ option_map (renamed_const s) o
  initialiser_one None on = refl
  initialiser_one (Some ops) on = ap Some (const_one ops on)

  -- the import of an origin
  abbrev pub OnImport : Option ℕ → Type 0
  OnImport o = (i : ℕ) → o ≡ Some i → r.imports i ≡ s.imports i

  origin_one : (o : Origin) → OnImport (origin_import o) → renamed_origin r o ≡ renamed_origin s o
  origin_one (ImportedBy i) on = ap ImportedBy (on i refl)
  origin_one Defined on = refl

  pub type_one : (x : TypeDef) → On (type_names x) → map (r.numbers Types) x.group ≡ map (s.numbers Types) x.group
  type_one x on = map-same_on (r.numbers Types) (s.numbers Types) x.group (on_types x.group (on_1 (map type_item x.group) _ on))

  pub table_one : (t : Table) → On (table_names t) → OnImport (origin_import t.origin) → renamed_table r t ≡ renamed_table s t
  table_one t on imported =
      let heaps : List Item = map type_item (heap_names t.ty.element.heap) in
      ap₂ (λ o e. record { origin = o; ty = record { limits = t.ty.limits; element = e }; initialiser = option_map (renamed_const r) t.initialiser })
      (origin_one t.origin imported) (ref_one t.ty.element (on_1 heaps (named_by names_of t.initialiser) on))
      ∙ ap (λ i. record { origin = renamed_origin s t.origin; ty = record { limits = t.ty.limits; element = map_ref (s.numbers Types) t.ty.element }; initialiser = i }) (initialiser_one t.initialiser (on_2 heaps (named_by names_of t.initialiser) on))

  pub memory_one : (m : Memory) → OnImport (origin_import m.origin) → renamed_memory r m ≡ renamed_memory s m
  memory_one m imported = ap (λ o. record { origin = o; ty = m.ty }) (origin_one m.origin imported)

  pub tag_one : (t : Tag) → On (tag_names t) → OnImport (origin_import t.origin) → renamed_tag r t ≡ renamed_tag s t
  tag_one t on imported = ap₂ (λ o n. record { origin = o; ty = n }) (origin_one t.origin imported) (on_head (type_item t.ty) [] on)

  pub global_one : (g : Global) → On (global_names g) → OnImport (origin_import g.origin) → renamed_global r g ≡ renamed_global s g
  global_one g on imported =
      let vals : List Item = map type_item (val_names g.ty.value) in
      ap₂ (λ o v. record { origin = o; ty = record { value = v; mutable = g.ty.mutable; shared = g.ty.shared }; initialiser = option_map (renamed_const r) g.initialiser })
      (origin_one g.origin imported) (val_one g.ty.value (on_1 vals (named_by names_of g.initialiser) on))
      ∙ ap (λ i. record { origin = renamed_origin s g.origin; ty = record { value = map_val (s.numbers Types) g.ty.value; mutable = g.ty.mutable; shared = g.ty.shared }; initialiser = i }) (initialiser_one g.initialiser (on_2 vals (named_by names_of g.initialiser) on))

  element_kind_one : (k : ElementKind) → On (element_kind_names k) → renamed_element_kind r k ≡ renamed_element_kind s k
  element_kind_one PassiveElements on = refl
  element_kind_one DeclaredElements on = refl
  element_kind_one (ActiveElements table offset) on = ap₂ ActiveElements (on_head (Tables, table) (names_of offset) on) (const_one offset (on_tail (Tables, table) (names_of offset) on))

  pub functions_one : (fs : List ℕ) → On (map function_item fs) → map (r.numbers Functions) fs ≡ map (s.numbers Functions) fs
  functions_one fs on = map-same_on (r.numbers Functions) (s.numbers Functions) fs (λ f at. on (function_item f) (Contains-map function_item f fs at))

  element_items_one : (x : ElementItems) → On (element_item_names x) → renamed_element_items r x ≡ renamed_element_items s x
  element_items_one (ListedFunctions fs) on = ap ListedFunctions (functions_one fs on)
  element_items_one (Expressions ty es) on =
      let heaps : List Item = map type_item (heap_names ty.heap) in
      ap₂ Expressions (ref_one ty (on_1 heaps (flat_map names_of es) on))
      (map-same_on (renamed_const r) (renamed_const s) es (λ e at. const_one e (λ x has. on_2 heaps (flat_map names_of es) on x (Contains-flat_map names_of es e x at has))))

  pub element_one : (e : Element) → On (element_names e) → renamed_element r e ≡ renamed_element s e
  element_one e on = ap₂ (λ k x. record { kind = k; items = x })
      (element_kind_one e.kind (on_1 (element_kind_names e.kind) (element_item_names e.items) on))
      (element_items_one e.items (on_2 (element_kind_names e.kind) (element_item_names e.items) on))

  data_kind_one : (k : DataKind) → On (data_kind_names k) → renamed_data_kind r k ≡ renamed_data_kind s k
  data_kind_one PassiveData on = refl
  data_kind_one (ActiveData memory offset) on = ap₂ ActiveData (on_head (Memories, memory) (names_of offset) on) (const_one offset (on_tail (Memories, memory) (names_of offset) on))

  pub data_one : (d : DataSegment) → On (data_names d) → renamed_data r d ≡ renamed_data s d
  data_one d on = ap (λ k. record { kind = k; value = d.value }) (data_kind_one d.kind on)

  pub import_one : (i : Import) → One i.item → renamed_import r i ≡ renamed_import s i
  import_one i on = ap (λ x. record { module_name = i.module_name; name = i.name; item = x }) (item_alike i.item on)

  pub exports_one : (es : List Export) → ((e : Export) → Contains es e → One e.item) → map (renamed_export r) es ≡ map (renamed_export s) es
  exports_one es on = map-same_on (renamed_export r) (renamed_export s) es (λ e at. ap (λ x. record { name = e.name; item = x }) (item_alike e.item (on e at)))
