-- No exact heap type stands in a body that was read.
use Rattle.std.proofs.Common.{◌≡◌, ℕ, zero, suc, List, [], ◌∷◌, ◌++◌, map, subst}
use Rattle.std.specs.Prelude.{Option, Some, flat_map, replicate}
use Rattle.wasm_forms.specs.Reading.{◌>>=◌}
use Rattle.wasm_forms.specs.declared.types.RawHeap.{RawHeap}
use Rattle.wasm_forms.specs.declared.types.RawHeap.TheVariants as heaps
use Rattle.wasm_forms.specs.declared.types.RawVal.{RawVal}
use Rattle.wasm_forms.specs.declared.types.RawVal.TheVariants as vals
use Rattle.wasm_operators.specs.declared.operator.RawArg.{RawArg}
use Rattle.wasm_operators.specs.declared.operator.RawArg.TheVariants as raw
use Rattle.wasm_operators.specs.declared.operator.RawBlock.{RawBlock}
use Rattle.wasm_operators.specs.declared.operator.RawBlock.TheVariants as raw_block
use Rattle.wasm_operators.specs.Operators as wire
use Rattle.wasm_forms.proofs.Bind.{some_same, bind_some}
use Rattle.walrus_base.specs.Types.{HeapType, Concrete, ValType, I32, I64, F32, F64, V128, Ref, IsNotExact, val_heaps}
use Rattle.walrus_base.specs.Operators.{Space, Types, Functions, Tables, Memories, Tags, Globals, Elements, DataSegments, BlockType, NoResult, OneResult, OfType, Arg, Index, Label, Local, Number, Count, Byte, S32, S64, Bits32, Bits64, Value, Heap, Block, Access, Op}
use Rattle.walrus_functions.specs.FromRaw.{heap_of, val_of, block_of, arg_of, op_of, ops_of}
use Rattle.walrus_functions.specs.Names.{Lookup, named_heap, named_val, named_block, named_arg, named_args, named_op, named_ops}
use Rattle.walrus_functions.specs.Body.{declared_types}
use Rattle.walrus_model.specs.WellMade.{block_heaps, arg_heaps, op_heaps}
use Rattle.walrus_model.proofs.PlainTypes.{Plain, plain_append, ValsPlain}

module _ (names : Lookup) where
  heap_named : (h : RawHeap) (k : HeapType ℕ) → named_heap names (heap_of h) ≡ Some k → IsNotExact k
  heap_named (heaps.Abstract b) k e = subst (λ (x : HeapType ℕ). IsNotExact x) (some_same _ k e) tt
  heap_named (heaps.Index t) k e =
      let x = bind_some (names Types t) (λ found. Some (Concrete found)) k e in
      subst (λ (x : HeapType ℕ). IsNotExact x) (some_same (Concrete x.0) k x.2) tt

  val_named : (v : RawVal) (w : ValType ℕ) → named_val names (val_of v) ≡ Some w → Plain (val_heaps w)
  val_named vals.I32 w e = subst (λ (x : ValType ℕ). Plain (val_heaps x)) (some_same I32 w e) tt
  val_named vals.I64 w e = subst (λ (x : ValType ℕ). Plain (val_heaps x)) (some_same I64 w e) tt
  val_named vals.F32 w e = subst (λ (x : ValType ℕ). Plain (val_heaps x)) (some_same F32 w e) tt
  val_named vals.F64 w e = subst (λ (x : ValType ℕ). Plain (val_heaps x)) (some_same F64 w e) tt
  val_named vals.V128 w e = subst (λ (x : ValType ℕ). Plain (val_heaps x)) (some_same V128 w e) tt
  val_named (vals.Ref r) w e =
      let x = bind_some (named_heap names (heap_of r.heap)) (λ heap. Some (Ref (record { nullable = r.nullable; heap = heap }))) w e in
      subst (λ (x : ValType ℕ). Plain (val_heaps x)) (some_same _ w x.2) (heap_named r.heap x.0 x.1, tt)

  block_named : (b : RawBlock) (k : BlockType) → named_block names (block_of b) ≡ Some k → Plain (block_heaps k)
  block_named raw_block.NoResult k e = subst (λ x. Plain (block_heaps x)) (some_same NoResult k e) tt
  block_named (raw_block.OneResult v) k e =
      let x = bind_some (named_val names (val_of v)) (λ found. Some (OneResult found)) k e in
      subst (λ x. Plain (block_heaps x)) (some_same (OneResult x.0) k x.2) (val_named v x.0 x.1)
  block_named (raw_block.OfType t) k e =
      let x = bind_some (names Types t) (λ found. Some (OfType found)) k e in
      subst (λ x. Plain (block_heaps x)) (some_same (OfType x.0) k x.2) tt

  abbrev ArgPlain : Arg → Type 0
  ArgPlain a = Plain (arg_heaps a)

  item_named : (space : Space) (n : ℕ) (b : Arg) → (names space n >>= λ found. Some (Index (space, found))) ≡ Some b → ArgPlain b
  item_named space n b e = let x = bind_some (names space n) (λ found. Some (Index (space, found))) b e in subst ArgPlain (some_same (Index (space, x.0)) b x.2) tt

  module _ (locals : ℕ → Option ℕ) where
    arg_named : (a : RawArg) (b : Arg) → named_arg names locals (arg_of a) ≡ Some b → ArgPlain b
    arg_named (raw.Function n) b e = item_named Functions n b e
    arg_named (raw.«Type» n) b e = item_named Types n b e
    arg_named (raw.Table n) b e = item_named Tables n b e
    arg_named (raw.Memory n) b e = item_named Memories n b e
    arg_named (raw.Global n) b e = item_named Globals n b e
    arg_named (raw.Tag n) b e = item_named Tags n b e
    arg_named (raw.Element n) b e = item_named Elements n b e
    arg_named (raw.Data n) b e = item_named DataSegments n b e
    arg_named (raw.Local n) b e = let x = bind_some (locals n) (λ found. Some (Local found)) b e in subst ArgPlain (some_same (Local x.0) b x.2) tt
    arg_named (raw.Label n) b e = subst ArgPlain (some_same (Label n) b e) tt
    arg_named (raw.Count n) b e = subst ArgPlain (some_same (Count n) b e) tt
    arg_named (raw.Number n) b e = subst ArgPlain (some_same (Number n) b e) tt
    arg_named (raw.Byte n) b e = subst ArgPlain (some_same (Byte n) b e) tt
    arg_named (raw.S32 z) b e = subst ArgPlain (some_same (S32 z) b e) tt
    arg_named (raw.S64 z) b e = subst ArgPlain (some_same (S64 z) b e) tt
    arg_named (raw.F32 n) b e = subst ArgPlain (some_same (Bits32 n) b e) tt
    arg_named (raw.F64 n) b e = subst ArgPlain (some_same (Bits64 n) b e) tt
    arg_named (raw.Value v) b e = let x = bind_some (named_val names (val_of v)) (λ found. Some (Value found)) b e in subst ArgPlain (some_same (Value x.0) b x.2) (val_named v x.0 x.1)
    arg_named (raw.Heap h) b e = let x = bind_some (named_heap names (heap_of h)) (λ found. Some (Heap found)) b e in subst ArgPlain (some_same (Heap x.0) b x.2) (heap_named h x.0 x.1, tt)
    arg_named (raw.Block k) b e = let x = bind_some (named_block names (block_of k)) (λ found. Some (Block found)) b e in subst ArgPlain (some_same (Block x.0) b x.2) (block_named k x.0 x.1)
    arg_named (raw.Access flags memory offset) b e = let x = bind_some (names Memories memory) (λ found. Some (Access flags found offset)) b e in subst ArgPlain (some_same (Access flags x.0 offset) b x.2) tt

    args_named : (xs : List RawArg) (ys : List Arg) → named_args names locals (map arg_of xs) ≡ Some ys → Plain (flat_map arg_heaps ys)
    args_named [] ys e = subst (λ (l : List Arg). Plain (flat_map arg_heaps l)) (some_same [] ys e) tt
    args_named (a ∷ xs) ys e =
        let x = bind_some (named_arg names locals (arg_of a)) (λ found. named_args names locals (map arg_of xs) >>= λ others. Some (found ∷ others)) ys e in
        let y = bind_some (named_args names locals (map arg_of xs)) (λ others. Some (x.0 ∷ others)) ys x.2 in
        subst (λ (l : List Arg). Plain (flat_map arg_heaps l)) (some_same (x.0 ∷ y.0) ys y.2) (plain_append (arg_heaps x.0) (flat_map arg_heaps y.0) (arg_named a x.0 x.1) (args_named xs y.0 y.1))

    pub ops_named : (texts : List wire.Op) (ops : List Op) → named_ops names locals (ops_of texts) ≡ Some ops → Plain (flat_map op_heaps ops)
    ops_named [] ops e = subst (λ (l : List Op). Plain (flat_map op_heaps l)) (some_same [] ops e) tt
    ops_named (t ∷ texts) ops e =
        let x = bind_some (named_op names locals (op_of t)) (λ found. named_ops names locals (ops_of texts) >>= λ others. Some (found ∷ others)) ops e in
        let y = bind_some (named_ops names locals (ops_of texts)) (λ others. Some (x.0 ∷ others)) ops x.2 in
        let a = bind_some (named_args names locals (map arg_of t.args)) (λ args. let o : Op = record { op = t.op; args = args } in Some o) x.0 x.1 in
        let one : Plain (op_heaps x.0) = subst (λ (o : Op). Plain (op_heaps o)) (some_same _ x.0 a.2) (args_named t.args a.0 a.1) in
        subst (λ (l : List Op). Plain (flat_map op_heaps l)) (some_same (x.0 ∷ y.0) ops y.2) (plain_append (op_heaps x.0) (flat_map op_heaps y.0) one (ops_named texts y.0 y.1))

  many_plain : (n : ℕ) (v : ValType ℕ) (rest : List (ValType ℕ)) → Plain (val_heaps v) → ValsPlain rest → ValsPlain (replicate n v ++ rest)
  many_plain zero v rest h k = k
  many_plain (suc n) v rest h k = plain_append (val_heaps v) (flat_map val_heaps (replicate n v ++ rest)) h (many_plain n v rest h k)

  pub types_named : (ds : List (ℕ × RawVal)) (types : List (ValType ℕ)) → declared_types names ds ≡ Some types → ValsPlain types
  types_named [] types e = subst ValsPlain (some_same [] types e) tt
  types_named (d ∷ ds) types e =
      let x = bind_some (named_val names (val_of d.1)) (λ v. declared_types names ds >>= λ others. Some (replicate d.0 v ++ others)) types e in
      let y = bind_some (declared_types names ds) (λ others. Some (replicate d.0 x.0 ++ others)) types x.2 in
      subst ValsPlain (some_same (replicate d.0 x.0 ++ y.0) types y.2) (many_plain d.0 x.0 y.0 (val_named d.1 x.0 x.1) (types_named ds y.0 y.1))
