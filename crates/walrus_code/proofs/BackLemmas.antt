-- Operators that are put through look-ups that lead back are the same again.
use Rattle.std.proofs.Common.{◌≡◌, ℕ, List, [], ◌∷◌, Option, Some, refl, sym}
use Rattle.wasm_forms.specs.Reading.{◌>>=◌}
use Rattle.wasm_forms.proofs.Bind.{bind_some, some_same}
use Rattle.walrus_base.specs.Types.{HeapType, OfHeap, Concrete, Exact, ValType, I32, I64, F32, F64, V128, Ref}
use Rattle.walrus_base.specs.Operators.{Types, Memories, BlockType, NoResult, OneResult, OfType, Arg, Index, Label, Local, Number, Count, Byte, S32, S64, Bits32, Bits64, Value, Heap, Block, Access, Op}
use Rattle.walrus_code.specs.Names.{Lookup, LeadsBack, LocalsLeadBack, named_heap, named_val, named_block, named_arg, named_args, named_op, named_ops}

module _ (there back : Lookup) (leads : LeadsBack there back) where
  heap_back : (x found : HeapType ℕ) → named_heap there x ≡ Some found → named_heap back found ≡ Some x
  heap_back (OfHeap h) found is = let same : found ≡ OfHeap h = cc in rw same refl
  heap_back (Concrete t) found is =
      let b = bind_some (there Types t) (λ k. Some (Concrete k)) found is in
      let same : found ≡ Concrete b.0 = sym (some_same _ _ b.2) in
      rw (same, leads Types t b.0 b.1) refl
  heap_back (Exact t) found is =
      let b = bind_some (there Types t) (λ k. Some (Exact k)) found is in
      let same : found ≡ Exact b.0 = sym (some_same _ _ b.2) in
      rw (same, leads Types t b.0 b.1) refl

  pub val_back : (x found : ValType ℕ) → named_val there x ≡ Some found → named_val back found ≡ Some x
  val_back (Ref r) found is =
      let b = bind_some (named_heap there r.heap) (λ heap. Some (Ref (record { nullable = r.nullable; heap = heap }))) found is in
      let same : found ≡ Ref (record { nullable = r.nullable; heap = b.0 }) = sym (some_same _ _ b.2) in
      rw (same, heap_back r.heap b.0 b.1) refl
  val_back I32 found is = let same : found ≡ I32 = cc in rw same refl
  val_back I64 found is = let same : found ≡ I64 = cc in rw same refl
  val_back F32 found is = let same : found ≡ F32 = cc in rw same refl
  val_back F64 found is = let same : found ≡ F64 = cc in rw same refl
  val_back V128 found is = let same : found ≡ V128 = cc in rw same refl

  block_back : (x found : BlockType) → named_block there x ≡ Some found → named_block back found ≡ Some x
  block_back NoResult found is = let same : found ≡ NoResult = cc in rw same refl
  block_back (OneResult v) found is =
      let b = bind_some (named_val there v) (λ w. Some (OneResult w)) found is in
      let same : found ≡ OneResult b.0 = sym (some_same _ _ b.2) in
      rw (same, val_back v b.0 b.1) refl
  block_back (OfType t) found is =
      let b = bind_some (there Types t) (λ k. Some (OfType k)) found is in
      let same : found ≡ OfType b.0 = sym (some_same _ _ b.2) in
      rw (same, leads Types t b.0 b.1) refl

  module _ (locals locals_back : ℕ → Option ℕ) (locals_lead : LocalsLeadBack locals locals_back) where
    arg_back : (x found : Arg) → named_arg there locals x ≡ Some found → named_arg back locals_back found ≡ Some x
    arg_back (Index x) found is =
        let b = bind_some (there x.0 x.1) (λ k. Some (Index (x.0, k))) found is in
        let same : found ≡ Index (x.0, b.0) = sym (some_same _ _ b.2) in
        rw (same, leads x.0 x.1 b.0 b.1) refl
    arg_back (Local n) found is =
        let b = bind_some (locals n) (λ k. Some (Local k)) found is in
        let same : found ≡ Local b.0 = sym (some_same _ _ b.2) in
        rw (same, locals_lead n b.0 b.1) refl
    arg_back (Value v) found is =
        let b = bind_some (named_val there v) (λ w. Some (Value w)) found is in
        let same : found ≡ Value b.0 = sym (some_same _ _ b.2) in
        rw (same, val_back v b.0 b.1) refl
    arg_back (Heap h) found is =
        let b = bind_some (named_heap there h) (λ w. Some (Heap w)) found is in
        let same : found ≡ Heap b.0 = sym (some_same _ _ b.2) in
        rw (same, heap_back h b.0 b.1) refl
    arg_back (Block t) found is =
        let b = bind_some (named_block there t) (λ w. Some (Block w)) found is in
        let same : found ≡ Block b.0 = sym (some_same _ _ b.2) in
        rw (same, block_back t b.0 b.1) refl
    arg_back (Access flags memory offset) found is =
        let b = bind_some (there Memories memory) (λ k. Some (Access flags k offset)) found is in
        let same : found ≡ Access flags b.0 offset = sym (some_same _ _ b.2) in
        rw (same, leads Memories memory b.0 b.1) refl
    arg_back (Label n) found is = let same : found ≡ Label n = cc in rw same refl
    arg_back (Number n) found is = let same : found ≡ Number n = cc in rw same refl
    arg_back (Count n) found is = let same : found ≡ Count n = cc in rw same refl
    arg_back (Byte n) found is = let same : found ≡ Byte n = cc in rw same refl
    arg_back (S32 n) found is = let same : found ≡ S32 n = cc in rw same refl
    arg_back (S64 n) found is = let same : found ≡ S64 n = cc in rw same refl
    arg_back (Bits32 n) found is = let same : found ≡ Bits32 n = cc in rw same refl
    arg_back (Bits64 n) found is = let same : found ≡ Bits64 n = cc in rw same refl

    args_back : (xs found : List Arg) → named_args there locals xs ≡ Some found → named_args back locals_back found ≡ Some xs
    args_back [] found is = let same : found ≡ [] = cc in rw same refl
    args_back (x ∷ xs) found is =
        let b = bind_some (named_arg there locals x) (λ y. named_args there locals xs >>= λ ys. Some (y ∷ ys)) found is in
        let d = bind_some (named_args there locals xs) (λ ys. Some (b.0 ∷ ys)) found b.2 in
        let same : found ≡ b.0 ∷ d.0 = sym (some_same _ _ d.2) in
        rw (same, arg_back x b.0 b.1, args_back xs d.0 d.1) refl

    op_back : (x found : Op) → named_op there locals x ≡ Some found → named_op back locals_back found ≡ Some x
    op_back x found is =
        let b = bind_some (named_args there locals x.args) (λ args. Some (record { op = x.op; args = args })) found is in
        let same : found ≡ record { op = x.op; args = b.0 } = sym (some_same _ _ b.2) in
        rw (same, args_back x.args b.0 b.1) refl

    pub ops_back : (xs found : List Op) → named_ops there locals xs ≡ Some found → named_ops back locals_back found ≡ Some xs
    ops_back [] found is = let same : found ≡ [] = cc in rw same refl
    ops_back (x ∷ xs) found is =
        let b = bind_some (named_op there locals x) (λ y. named_ops there locals xs >>= λ ys. Some (y ∷ ys)) found is in
        let d = bind_some (named_ops there locals xs) (λ ys. Some (b.0 ∷ ys)) found b.2 in
        let same : found ≡ b.0 ∷ d.0 = sym (some_same _ _ d.2) in
        rw (same, op_back x b.0 b.1, ops_back xs d.0 d.1) refl
