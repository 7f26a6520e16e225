-- Where all that operators name has an index, they can be put through the indices.
use Rattle.std.proofs.Common.{ℕ, List, [], ◌∷◌, map, refl, Some, None}
use Rattle.std.specs.Prelude.{Option, IsSome, Contains, flat_map}
use Rattle.walrus_base.specs.Types.{RefType, HeapType, OfHeap, Concrete, Exact, ValType, I32, I64, F32, F64, V128, Ref, heap_names, val_names}
use Rattle.walrus_base.specs.Operators.{Item, Types, Memories, type_item, BlockType, NoResult, OneResult, OfType, Arg, Index, Label, Local, Number, Count, Byte, S32, S64, Bits32, Bits64, Value, Heap, Block, Access, Op, block_names, arg_names, arg_locals, op_names, op_locals, names_of, locals_of}
use Rattle.walrus_code.specs.Names.{Lookup, named_heap, named_val, named_block, named_arg, named_args, named_op, named_ops}
use Rattle.walrus_constants.specs.Named.{named_const, named_global, named_initialiser, named_ref, named_table}
use Rattle.walrus_model.specs.Abstract.{Global, Table}
use Rattle.walrus_model.specs.Refers.{global_names, named_by, table_names}
use Rattle.walrus_base.proofs.Lists.{Contains-head, Contains-map, Contains-append_1, Contains-append_2}
use Rattle.walrus_code.proofs.Somes.{some_then}

module _ (names : Lookup) where
  abbrev TypesNamed : List ℕ → Type 0
  TypesNamed ts = (t : ℕ) → Contains ts t → IsSome (names Types t)

  heap_named : (h : HeapType ℕ) → TypesNamed (heap_names h) → IsSome (named_heap names h)
  heap_named (OfHeap h) k = refl
  heap_named (Concrete t) k = some_then (names Types t) _ (k t (Contains-head t [])) (λ x. refl)
  heap_named (Exact t) k = some_then (names Types t) _ (k t (Contains-head t [])) (λ x. refl)

  pub val_named : (v : ValType ℕ) → TypesNamed (val_names v) → IsSome (named_val names v)
  val_named (Ref r) k = some_then (named_heap names r.heap) _ (heap_named r.heap (λ t c. k t (Contains-append_1 t (heap_names r.heap) [] c))) (λ x. refl)
  val_named I32 k = refl
  val_named I64 k = refl
  val_named F32 k = refl
  val_named F64 k = refl
  val_named V128 k = refl

  block_named : (b : BlockType) → TypesNamed (block_names b) → IsSome (named_block names b)
  block_named NoResult k = refl
  block_named (OneResult v) k = some_then (named_val names v) _ (val_named v k) (λ x. refl)
  block_named (OfType t) k = some_then (names Types t) _ (k t (Contains-head t [])) (λ x. refl)

  module _ (locals : ℕ → Option ℕ) where
    abbrev ItemsNamed : List Item → Type 0
    ItemsNamed items = (x : Item) → Contains items x → IsSome (names x.0 x.1)

    abbrev LocalsNamed : List ℕ → Type 0
    LocalsNamed xs = (x : ℕ) → Contains xs x → IsSome (locals x)

    types_in : (ts : List ℕ) → ItemsNamed (map type_item ts) → TypesNamed ts
    types_in ts k = λ t c. k (Types, t) (Contains-map type_item t ts c)

    arg_named : (a : Arg) → ItemsNamed (arg_names a) → LocalsNamed (arg_locals a) → IsSome (named_arg names locals a)
    arg_named (Index x) k l = some_then (names x.0 x.1) _ (k x (Contains-head x [])) (λ y. refl)
    arg_named (Local n) k l = some_then (locals n) _ (l n (Contains-head n [])) (λ y. refl)
    arg_named (Value v) k l = some_then (named_val names v) _ (val_named v (types_in (val_names v) k)) (λ y. refl)
    arg_named (Heap h) k l = some_then (named_heap names h) _ (heap_named h (types_in (heap_names h) k)) (λ y. refl)
    arg_named (Block b) k l = some_then (named_block names b) _ (block_named b (types_in (block_names b) k)) (λ y. refl)
    arg_named (Access flags memory offset) k l = some_then (names Memories memory) _ (k (Memories, memory) (Contains-head (Memories, memory) [])) (λ y. refl)
    arg_named (Label n) k l = refl
    arg_named (Number n) k l = refl
    arg_named (Count n) k l = refl
    arg_named (Byte n) k l = refl
    arg_named (S32 n) k l = refl
    arg_named (S64 n) k l = refl
    arg_named (Bits32 n) k l = refl
    arg_named (Bits64 n) k l = refl

    args_named : (all : List Arg) → ItemsNamed (flat_map arg_names all) → LocalsNamed (flat_map arg_locals all) → IsSome (named_args names locals all)
    args_named [] k l = refl
    args_named (a ∷ rest) k l =
        some_then (named_arg names locals a) _
        (arg_named a (λ x c. k x (Contains-append_1 x (arg_names a) (flat_map arg_names rest) c)) (λ x c. l x (Contains-append_1 x (arg_locals a) (flat_map arg_locals rest) c)))
        (λ y. some_then (named_args names locals rest) _
        (args_named rest (λ x c. k x (Contains-append_2 x (arg_names a) (flat_map arg_names rest) c)) (λ x c. l x (Contains-append_2 x (arg_locals a) (flat_map arg_locals rest) c)))
        (λ ys. refl))

    op_named : (o : Op) → ItemsNamed (op_names o) → LocalsNamed (op_locals o) → IsSome (named_op names locals o)
    op_named o k l = some_then (named_args names locals o.args) _ (args_named o.args k l) (λ y. refl)

    pub ops_named : (ops : List Op) → ItemsNamed (names_of ops) → LocalsNamed (locals_of ops) → IsSome (named_ops names locals ops)
    ops_named [] k l = refl
    ops_named (o ∷ rest) k l =
        some_then (named_op names locals o) _
        (op_named o (λ x c. k x (Contains-append_1 x (op_names o) (names_of rest) c)) (λ x c. l x (Contains-append_1 x (op_locals o) (locals_of rest) c)))
        (λ y. some_then (named_ops names locals rest) _
        (ops_named rest (λ x c. k x (Contains-append_2 x (op_names o) (names_of rest) c)) (λ x c. l x (Contains-append_2 x (op_locals o) (locals_of rest) c)))
        (λ ys. refl))

  -- ---- items with initialisers

  abbrev AllNamed : List Item → Type 0
  AllNamed items = (x : Item) → Contains items x → IsSome (names x.0 x.1)

  const_named : (ops : List Op) → AllNamed (names_of ops) → IsSome (named_const names ops)
  const_named [] k = refl
  const_named (o ∷ rest) k =
      some_then (named_op names (λ x. Some x) o) _
      (op_named (λ x. Some x) o (λ x c. k x (Contains-append_1 x (op_names o) (names_of rest) c)) (λ x c. refl))
      (λ y. some_then (named_const names rest) _ (const_named rest (λ x c. k x (Contains-append_2 x (op_names o) (names_of rest) c))) (λ ys. refl))

  initialiser_named : (i : Option (List Op)) → AllNamed (named_by names_of i) → IsSome (named_initialiser names i)
  initialiser_named None k = refl
  initialiser_named (Some ops) k = some_then (named_const names ops) _ (const_named ops k) (λ found. refl)

  ref_named : (r : RefType ℕ) → TypesNamed (heap_names r.heap) → IsSome (named_ref names r)
  ref_named r k = some_then (named_heap names r.heap) _ (heap_named r.heap k) (λ x. refl)

  pub table_named : (t : Table) → AllNamed (table_names t) → IsSome (named_table names t)
  table_named t k =
      let element = map type_item (heap_names t.ty.element.heap) in
      let initial = named_by names_of t.initialiser in
      some_then (named_ref names t.ty.element) _
      (ref_named t.ty.element (λ u c. k (Types, u) (Contains-append_1 (Types, u) element initial (Contains-map type_item u (heap_names t.ty.element.heap) c))))
      (λ x. some_then (named_initialiser names t.initialiser) _ (initialiser_named t.initialiser (λ y c. k y (Contains-append_2 y element initial c))) (λ i. refl))

  pub global_named : (g : Global) → AllNamed (global_names g) → IsSome (named_global names g)
  global_named g k =
      let value = map type_item (val_names g.ty.value) in
      let initial = named_by names_of g.initialiser in
      some_then (named_val names g.ty.value) _
      (val_named g.ty.value (λ u c. k (Types, u) (Contains-append_1 (Types, u) value initial (Contains-map type_item u (val_names g.ty.value) c))))
      (λ x. some_then (named_initialiser names g.initialiser) _ (initialiser_named g.initialiser (λ y c. k y (Contains-append_2 y value initial c))) (λ i. refl))
