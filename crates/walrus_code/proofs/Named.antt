-- Operators put through look-ups.
use Rattle.std.proofs.Common.{◌≡◌, ℕ, List, [], ◌∷◌, refl, ap, ap₂, subst, Some}
use Rattle.std.specs.Prelude.{Option}
use Rattle.wasm_forms.specs.Reading.{◌>>=◌}
use Rattle.walrus_base.specs.Types.{HeapType, OfHeap, Concrete, Exact, ValType, I32, I64, F32, F64, V128, Ref}
use Rattle.walrus_base.specs.Operators.{Space, Types, Memories, BlockType, NoResult, OneResult, OfType, Arg, Index, Label, Local, Number, Count, Byte, S32, S64, Bits32, Bits64, Value, Heap, Block, Access, Op}
use Rattle.walrus_code.specs.Names.{Lookup, named_heap, named_val, named_block, named_arg, named_args, named_op, named_ops}
use Rattle.walrus_base.proofs.Standing.{some_inj}
use Rattle.wasm_forms.proofs.Bind.{bind_some as through}

-- ---- what f finds, g finds again as h does the first

module _ (f g h : Lookup) (H : (space : Space) (p j : ℕ) → f space p ≡ Some j → g space j ≡ h space p) where
  heap_again : (a b : HeapType ℕ) → named_heap f a ≡ Some b → named_heap g b ≡ named_heap h a
  heap_again (OfHeap x) b e = subst (λ c. named_heap g c ≡ named_heap h (OfHeap x)) (some_inj (OfHeap x) b e) refl
  heap_again (Concrete t) b e =
      let q : (j : ℕ) × (f Types t ≡ Some j) × (Some (Concrete j) ≡ Some b) = through (f Types t) (λ found. Some (Concrete found)) b e in
      subst (λ c. named_heap g c ≡ named_heap h (Concrete t)) (some_inj (Concrete q.0) b q.2) (ap (λ (o : Option ℕ). o >>= λ found. Some (Concrete found)) (H Types t q.0 q.1))
  heap_again (Exact t) b e =
      let q : (j : ℕ) × (f Types t ≡ Some j) × (Some (Exact j) ≡ Some b) = through (f Types t) (λ found. Some (Exact found)) b e in
      subst (λ c. named_heap g c ≡ named_heap h (Exact t)) (some_inj (Exact q.0) b q.2) (ap (λ (o : Option ℕ). o >>= λ found. Some (Exact found)) (H Types t q.0 q.1))

  pub val_again : (a b : ValType ℕ) → named_val f a ≡ Some b → named_val g b ≡ named_val h a
  val_again (Ref r) b e =
      let q : (heap : HeapType ℕ) × (named_heap f r.heap ≡ Some heap) × (Some (Ref (record { nullable = r.nullable; heap = heap })) ≡ Some b) =
      through (named_heap f r.heap) (λ heap. Some (Ref (record { nullable = r.nullable; heap = heap }))) b e in
      subst (λ c. named_val g c ≡ named_val h (Ref r)) (some_inj (Ref (record { nullable = r.nullable; heap = q.0 })) b q.2)
      (ap (λ (o : Option (HeapType ℕ)). o >>= λ heap. Some (Ref (record { nullable = r.nullable; heap = heap }))) (heap_again r.heap q.0 q.1))
  val_again I32 b e = subst (λ c. named_val g c ≡ named_val h I32) (some_inj I32 b e) refl
  val_again I64 b e = subst (λ c. named_val g c ≡ named_val h I64) (some_inj I64 b e) refl
  val_again F32 b e = subst (λ c. named_val g c ≡ named_val h F32) (some_inj F32 b e) refl
  val_again F64 b e = subst (λ c. named_val g c ≡ named_val h F64) (some_inj F64 b e) refl
  val_again V128 b e = subst (λ c. named_val g c ≡ named_val h V128) (some_inj V128 b e) refl

  block_again : (a b : BlockType) → named_block f a ≡ Some b → named_block g b ≡ named_block h a
  block_again NoResult b e = subst (λ c. named_block g c ≡ named_block h NoResult) (some_inj NoResult b e) refl
  block_again (OneResult v) b e =
      let q : (w : ValType ℕ) × (named_val f v ≡ Some w) × (Some (OneResult w) ≡ Some b) = through (named_val f v) (λ found. Some (OneResult found)) b e in
      subst (λ c. named_block g c ≡ named_block h (OneResult v)) (some_inj (OneResult q.0) b q.2) (ap (λ (o : Option (ValType ℕ)). o >>= λ found. Some (OneResult found)) (val_again v q.0 q.1))
  block_again (OfType t) b e =
      let q : (j : ℕ) × (f Types t ≡ Some j) × (Some (OfType j) ≡ Some b) = through (f Types t) (λ found. Some (OfType found)) b e in
      subst (λ c. named_block g c ≡ named_block h (OfType t)) (some_inj (OfType q.0) b q.2) (ap (λ (o : Option ℕ). o >>= λ found. Some (OfType found)) (H Types t q.0 q.1))

  module _ (lf lg lh : ℕ → Option ℕ) (HL : (p j : ℕ) → lf p ≡ Some j → lg j ≡ lh p) where
    arg_again : (a b : Arg) → named_arg f lf a ≡ Some b → named_arg g lg b ≡ named_arg h lh a
    arg_again (Index x) b e =
        let q : (j : ℕ) × (f x.0 x.1 ≡ Some j) × (Some (Index (x.0, j)) ≡ Some b) = through (f x.0 x.1) (λ found. Some (Index (x.0, found))) b e in
        subst (λ c. named_arg g lg c ≡ named_arg h lh (Index x)) (some_inj (Index (x.0, q.0)) b q.2) (ap (λ (o : Option ℕ). o >>= λ found. Some (Index (x.0, found))) (H x.0 x.1 q.0 q.1))
    arg_again (Value v) b e =
        let q : (w : ValType ℕ) × (named_val f v ≡ Some w) × (Some (Value w) ≡ Some b) = through (named_val f v) (λ found. Some (Value found)) b e in
        subst (λ c. named_arg g lg c ≡ named_arg h lh (Value v)) (some_inj (Value q.0) b q.2) (ap (λ (o : Option (ValType ℕ)). o >>= λ found. Some (Value found)) (val_again v q.0 q.1))
    arg_again (Heap v) b e =
        let q : (w : HeapType ℕ) × (named_heap f v ≡ Some w) × (Some (Heap w) ≡ Some b) = through (named_heap f v) (λ found. Some (Heap found)) b e in
        subst (λ c. named_arg g lg c ≡ named_arg h lh (Heap v)) (some_inj (Heap q.0) b q.2) (ap (λ (o : Option (HeapType ℕ)). o >>= λ found. Some (Heap found)) (heap_again v q.0 q.1))
    arg_again (Block v) b e =
        let q : (w : BlockType) × (named_block f v ≡ Some w) × (Some (Block w) ≡ Some b) = through (named_block f v) (λ found. Some (Block found)) b e in
        subst (λ c. named_arg g lg c ≡ named_arg h lh (Block v)) (some_inj (Block q.0) b q.2) (ap (λ (o : Option BlockType). o >>= λ found. Some (Block found)) (block_again v q.0 q.1))
    arg_again (Access flags memory offset) b e =
        let q : (j : ℕ) × (f Memories memory ≡ Some j) × (Some (Access flags j offset) ≡ Some b) = through (f Memories memory) (λ found. Some (Access flags found offset)) b e in
        subst (λ c. named_arg g lg c ≡ named_arg h lh (Access flags memory offset)) (some_inj (Access flags q.0 offset) b q.2) (ap (λ (o : Option ℕ). o >>= λ found. Some (Access flags found offset)) (H Memories memory q.0 q.1))
    arg_again (Label n) b e = subst (λ c. named_arg g lg c ≡ named_arg h lh (Label n)) (some_inj (Label n) b e) refl
    arg_again (Local n) b e =
        let q : (j : ℕ) × (lf n ≡ Some j) × (Some (Local j) ≡ Some b) = through (lf n) (λ found. Some (Local found)) b e in
        subst (λ c. named_arg g lg c ≡ named_arg h lh (Local n)) (some_inj (Local q.0) b q.2) (ap (λ (o : Option ℕ). o >>= λ found. Some (Local found)) (HL n q.0 q.1))
    arg_again (Number n) b e = subst (λ c. named_arg g lg c ≡ named_arg h lh (Number n)) (some_inj (Number n) b e) refl
    arg_again (Count n) b e = subst (λ c. named_arg g lg c ≡ named_arg h lh (Count n)) (some_inj (Count n) b e) refl
    arg_again (Byte n) b e = subst (λ c. named_arg g lg c ≡ named_arg h lh (Byte n)) (some_inj (Byte n) b e) refl
    arg_again (S32 n) b e = subst (λ c. named_arg g lg c ≡ named_arg h lh (S32 n)) (some_inj (S32 n) b e) refl
    arg_again (S64 n) b e = subst (λ c. named_arg g lg c ≡ named_arg h lh (S64 n)) (some_inj (S64 n) b e) refl
    arg_again (Bits32 n) b e = subst (λ c. named_arg g lg c ≡ named_arg h lh (Bits32 n)) (some_inj (Bits32 n) b e) refl
    arg_again (Bits64 n) b e = subst (λ c. named_arg g lg c ≡ named_arg h lh (Bits64 n)) (some_inj (Bits64 n) b e) refl

    args_again : (a b : List Arg) → named_args f lf a ≡ Some b → named_args g lg b ≡ named_args h lh a
    args_again [] b e = subst (λ c. named_args g lg c ≡ named_args h lh []) (some_inj [] b e) refl
    args_again (x ∷ rest) b e =
        let q : (y : Arg) × (named_arg f lf x ≡ Some y) × ((named_args f lf rest >>= λ others. Some (y ∷ others)) ≡ Some b) = through (named_arg f lf x) (λ found. named_args f lf rest >>= λ others. Some (found ∷ others)) b e in
        let s : (ys : List Arg) × (named_args f lf rest ≡ Some ys) × (Some (q.0 ∷ ys) ≡ Some b) = through (named_args f lf rest) (λ others. Some (q.0 ∷ others)) b q.2 in
        subst (λ c. named_args g lg c ≡ named_args h lh (x ∷ rest)) (some_inj (q.0 ∷ s.0) b s.2)
        (ap₂ (λ (o : Option Arg) (os : Option (List Arg)). o >>= λ found. os >>= λ others. Some (found ∷ others)) (arg_again x q.0 q.1) (args_again rest s.0 s.1))

    op_again : (a b : Op) → named_op f lf a ≡ Some b → named_op g lg b ≡ named_op h lh a
    op_again a b e =
        let q : (ys : List Arg) × (named_args f lf a.args ≡ Some ys) × (Some (record { op = a.op; args = ys }) ≡ Some b) = through (named_args f lf a.args) (λ args. Some (record { op = a.op; args = args })) b e in
        let made : Op = record { op = a.op; args = q.0 } in
        subst (λ c. named_op g lg c ≡ named_op h lh a) (some_inj made b q.2)
        (ap (λ (o : Option (List Arg)). o >>= λ args. Some (record { op = a.op; args = args })) (args_again a.args q.0 q.1))

    pub ops_again : (a b : List Op) → named_ops f lf a ≡ Some b → named_ops g lg b ≡ named_ops h lh a
    ops_again [] b e = subst (λ c. named_ops g lg c ≡ named_ops h lh []) (some_inj [] b e) refl
    ops_again (x ∷ rest) b e =
        let q : (y : Op) × (named_op f lf x ≡ Some y) × ((named_ops f lf rest >>= λ others. Some (y ∷ others)) ≡ Some b) = through (named_op f lf x) (λ found. named_ops f lf rest >>= λ others. Some (found ∷ others)) b e in
        let s : (ys : List Op) × (named_ops f lf rest ≡ Some ys) × (Some (q.0 ∷ ys) ≡ Some b) = through (named_ops f lf rest) (λ others. Some (q.0 ∷ others)) b q.2 in
        subst (λ c. named_ops g lg c ≡ named_ops h lh (x ∷ rest)) (some_inj (q.0 ∷ s.0) b s.2)
        (ap₂ (λ (o : Option Op) (os : Option (List Op)). o >>= λ found. os >>= λ others. Some (found ∷ others)) (op_again x q.0 q.1) (ops_again rest s.0 s.1))
