-- Operators put through a look-up are those operators put through the renaming that agrees with it.
use Rattle.std.proofs.Common.{◌≡◌, ℕ, List, [], ◌∷◌, map, sym, ap, ap₂, ◌∙◌, Some}
use Rattle.std.specs.Prelude.{Option}
use Rattle.wasm_forms.specs.Reading.{◌>>=◌}
use Rattle.walrus_base.specs.Types.{HeapType, OfHeap, Concrete, Exact, ValType, I32, I64, F32, F64, V128, Ref, map_heap, map_val}
use Rattle.walrus_base.specs.Operators.{Space, Types, Memories, BlockType, NoResult, OneResult, OfType, Arg, Index, Label, Local, Number, Count, Byte, S32, S64, Bits32, Bits64, Value, Heap, Block, Access, Op}
use Rattle.walrus_functions.specs.Names.{Lookup, named_heap, named_val, named_block, named_arg, named_args, named_op, named_ops}
use Rattle.walrus_model.specs.Renaming.{Renaming, renamed_block, renamed_arg, renamed_op, renamed_ops}
use Rattle.walrus_base.proofs.Standing.{some_inj}
use Rattle.wasm_forms.proofs.Bind.{bind_some as through}

module _ (f : Lookup) (r : Renaming) (H : (space : Space) (p j : ℕ) → f space p ≡ Some j → j ≡ r.numbers space p) where
  heap_renamed : (a b : HeapType ℕ) → named_heap f a ≡ Some b → b ≡ map_heap (r.numbers Types) a
  heap_renamed (OfHeap x) b e = sym (some_inj (OfHeap x) b e)
  heap_renamed (Concrete t) b e =
      let q : (j : ℕ) × (f Types t ≡ Some j) × (Some (Concrete j) ≡ Some b) = through (f Types t) (λ found. Some (Concrete found)) b e in
      sym (some_inj (Concrete q.0) b q.2) ∙ ap (λ (j : ℕ). Concrete j) (H Types t q.0 q.1)
  heap_renamed (Exact t) b e =
      let q : (j : ℕ) × (f Types t ≡ Some j) × (Some (Exact j) ≡ Some b) = through (f Types t) (λ found. Some (Exact found)) b e in
      sym (some_inj (Exact q.0) b q.2) ∙ ap (λ (j : ℕ). Exact j) (H Types t q.0 q.1)

  pub val_renamed : (a b : ValType ℕ) → named_val f a ≡ Some b → b ≡ map_val (r.numbers Types) a
  val_renamed (Ref v) b e =
      let q : (heap : HeapType ℕ) × (named_heap f v.heap ≡ Some heap) × (Some (Ref (record { nullable = v.nullable; heap = heap })) ≡ Some b) =
      through (named_heap f v.heap) (λ heap. Some (Ref (record { nullable = v.nullable; heap = heap }))) b e in
      sym (some_inj (Ref (record { nullable = v.nullable; heap = q.0 })) b q.2) ∙ ap (λ (heap : HeapType ℕ). Ref (record { nullable = v.nullable; heap = heap })) (heap_renamed v.heap q.0 q.1)
  val_renamed I32 b e = sym (some_inj I32 b e)
  val_renamed I64 b e = sym (some_inj I64 b e)
  val_renamed F32 b e = sym (some_inj F32 b e)
  val_renamed F64 b e = sym (some_inj F64 b e)
  val_renamed V128 b e = sym (some_inj V128 b e)

  block_renamed : (a b : BlockType) → named_block f a ≡ Some b → b ≡ renamed_block r a
  block_renamed NoResult b e = sym (some_inj NoResult b e)
  block_renamed (OneResult v) b e =
      let q : (w : ValType ℕ) × (named_val f v ≡ Some w) × (Some (OneResult w) ≡ Some b) = through (named_val f v) (λ found. Some (OneResult found)) b e in
      sym (some_inj (OneResult q.0) b q.2) ∙ ap (λ (w : ValType ℕ). OneResult w) (val_renamed v q.0 q.1)
  block_renamed (OfType t) b e =
      let q : (j : ℕ) × (f Types t ≡ Some j) × (Some (OfType j) ≡ Some b) = through (f Types t) (λ found. Some (OfType found)) b e in
      sym (some_inj (OfType q.0) b q.2) ∙ ap (λ (j : ℕ). OfType j) (H Types t q.0 q.1)

  module _ (lf : ℕ → Option ℕ) (l : ℕ → ℕ) (HL : (p j : ℕ) → lf p ≡ Some j → j ≡ l p) where
    arg_renamed : (a b : Arg) → named_arg f lf a ≡ Some b → b ≡ renamed_arg r l a
    arg_renamed (Index x) b e =
        let q : (j : ℕ) × (f x.0 x.1 ≡ Some j) × (Some (Index (x.0, j)) ≡ Some b) = through (f x.0 x.1) (λ found. Some (Index (x.0, found))) b e in
        sym (some_inj (Index (x.0, q.0)) b q.2) ∙ ap (λ (j : ℕ). Index (x.0, j)) (H x.0 x.1 q.0 q.1)
    arg_renamed (Value v) b e =
        let q : (w : ValType ℕ) × (named_val f v ≡ Some w) × (Some (Value w) ≡ Some b) = through (named_val f v) (λ found. Some (Value found)) b e in
        sym (some_inj (Value q.0) b q.2) ∙ ap (λ (w : ValType ℕ). Value w) (val_renamed v q.0 q.1)
    arg_renamed (Heap v) b e =
        let q : (w : HeapType ℕ) × (named_heap f v ≡ Some w) × (Some (Heap w) ≡ Some b) = through (named_heap f v) (λ found. Some (Heap found)) b e in
        sym (some_inj (Heap q.0) b q.2) ∙ ap (λ (w : HeapType ℕ). Heap w) (heap_renamed v q.0 q.1)
    arg_renamed (Block v) b e =
        let q : (w : BlockType) × (named_block f v ≡ Some w) × (Some (Block w) ≡ Some b) = through (named_block f v) (λ found. Some (Block found)) b e in
        sym (some_inj (Block q.0) b q.2) ∙ ap (λ (w : BlockType). Block w) (block_renamed v q.0 q.1)
    arg_renamed (Access flags memory offset) b e =
        let q : (j : ℕ) × (f Memories memory ≡ Some j) × (Some (Access flags j offset) ≡ Some b) = through (f Memories memory) (λ found. Some (Access flags found offset)) b e in
        sym (some_inj (Access flags q.0 offset) b q.2) ∙ ap (λ (j : ℕ). Access flags j offset) (H Memories memory q.0 q.1)
    arg_renamed (Label n) b e = sym (some_inj (Label n) b e)
    arg_renamed (Local n) b e =
        let q : (j : ℕ) × (lf n ≡ Some j) × (Some (Local j) ≡ Some b) = through (lf n) (λ found. Some (Local found)) b e in
        sym (some_inj (Local q.0) b q.2) ∙ ap (λ (j : ℕ). Local j) (HL n q.0 q.1)
    arg_renamed (Number n) b e = sym (some_inj (Number n) b e)
    arg_renamed (Count n) b e = sym (some_inj (Count n) b e)
    arg_renamed (Byte n) b e = sym (some_inj (Byte n) b e)
    arg_renamed (S32 n) b e = sym (some_inj (S32 n) b e)
    arg_renamed (S64 n) b e = sym (some_inj (S64 n) b e)
    arg_renamed (Bits32 n) b e = sym (some_inj (Bits32 n) b e)
    arg_renamed (Bits64 n) b e = sym (some_inj (Bits64 n) b e)

    args_renamed : (a b : List Arg) → named_args f lf a ≡ Some b → b ≡ map (renamed_arg r l) a
    args_renamed [] b e = sym (some_inj [] b e)
    args_renamed (x ∷ rest) b e =
        let q : (y : Arg) × (named_arg f lf x ≡ Some y) × ((named_args f lf rest >>= λ others. Some (y ∷ others)) ≡ Some b) = through (named_arg f lf x) (λ found. named_args f lf rest >>= λ others. Some (found ∷ others)) b e in
        let s : (ys : List Arg) × (named_args f lf rest ≡ Some ys) × (Some (q.0 ∷ ys) ≡ Some b) = through (named_args f lf rest) (λ others. Some (q.0 ∷ others)) b q.2 in
        sym (some_inj (q.0 ∷ s.0) b s.2) ∙ ap₂ (λ (y : Arg) (ys : List Arg). y ∷ ys) (arg_renamed x q.0 q.1) (args_renamed rest s.0 s.1)

    op_is_renamed : (a b : Op) → named_op f lf a ≡ Some b → b ≡ renamed_op r l a
    op_is_renamed a b e =
        let q : (ys : List Arg) × (named_args f lf a.args ≡ Some ys) × (Some (record { op = a.op; args = ys }) ≡ Some b) = through (named_args f lf a.args) (λ args. Some (record { op = a.op; args = args })) b e in
        let made : Op = record { op = a.op; args = q.0 } in
        sym (some_inj made b q.2) ∙ ap (λ (ys : List Arg). record { op = a.op; args = ys }) (args_renamed a.args q.0 q.1)

    pub ops_renamed : (a b : List Op) → named_ops f lf a ≡ Some b → b ≡ renamed_ops r l a
    ops_renamed [] b e = sym (some_inj [] b e)
    ops_renamed (x ∷ rest) b e =
        let q : (y : Op) × (named_op f lf x ≡ Some y) × ((named_ops f lf rest >>= λ others. Some (y ∷ others)) ≡ Some b) = through (named_op f lf x) (λ found. named_ops f lf rest >>= λ others. Some (found ∷ others)) b e in
        let s : (ys : List Op) × (named_ops f lf rest ≡ Some ys) × (Some (q.0 ∷ ys) ≡ Some b) = through (named_ops f lf rest) (λ others. Some (q.0 ∷ others)) b q.2 in
        sym (some_inj (q.0 ∷ s.0) b s.2) ∙ ap₂ (λ (y : Op) (ys : List Op). y ∷ ys) (op_is_renamed x q.0 q.1) (ops_renamed rest s.0 s.1)
