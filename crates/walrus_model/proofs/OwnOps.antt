-- Operators whose look-ups lead each number to itself are the same operators.
use Rattle.std.proofs.Common.{◌≡◌, ℕ, ◌+◌, ◌<◌, Bool, true, false, List, [], ◌∷◌, length, sym, ap, ap₂, ◌∙◌, arith}
use Rattle.std.specs.Prelude.{Option, Some, None, nat_lt, if◌then◌else◌}
use Rattle.std.specs.List.{range_with_len}
use Rattle.std.proofs.lemmas.List.FromFn.{length-range_with_len}
use Rattle.std.proofs.lemmas.Option.{slice_get_within}
use Rattle.wasm_frames.specs.Record as wire
use Rattle.wasm_forms.specs.Reading.{◌>>=◌}
use Rattle.wasm_forms.proofs.Bind.{bind_some, some_same}
use Rattle.walrus_base.specs.Types.{HeapType, OfHeap, Concrete, Exact, ValType, I32, I64, F32, F64, V128, Ref}
use Rattle.walrus_base.specs.Operators.{Space, Types, Functions, Tables, Memories, Tags, Globals, Elements, DataSegments, BlockType, NoResult, OneResult, OfType, Arg, Index, Label, Local, Number, Count, Byte, S32, S64, Bits32, Bits64, Value, Heap, Block, Access, Op}
use Rattle.walrus_functions.specs.Names.{Lookup, named_heap, named_val, named_block, named_arg, named_args, named_op, named_ops}
use Rattle.walrus_functions.specs.ReadFunction.{locals_from}
use Rattle.walrus_model.specs.Reads.{below, declared}
use Rattle.walrus_base.proofs.Taking.{get_range as local_is}

module _ (names : Lookup) (locals : ℕ → Option ℕ) (same : (space : Space) (i j : ℕ) → names space i ≡ Some j → j ≡ i) (own : (i j : ℕ) → locals i ≡ Some j → j ≡ i) where
  heap_itself : (h g : HeapType ℕ) → named_heap names h ≡ Some g → g ≡ h
  heap_itself (OfHeap h) g e = sym (some_same (OfHeap h) g e)
  heap_itself (Concrete t) g e = let b = bind_some (names Types t) (λ found. Some (Concrete found)) g e in sym (some_same (Concrete b.0) g b.2) ∙ ap Concrete (same Types t b.0 b.1)
  heap_itself (Exact t) g e = let b = bind_some (names Types t) (λ found. Some (Exact found)) g e in sym (some_same (Exact b.0) g b.2) ∙ ap Exact (same Types t b.0 b.1)

  val_itself : (v w : ValType ℕ) → named_val names v ≡ Some w → w ≡ v
  val_itself I32 w e = sym (some_same I32 w e)
  val_itself I64 w e = sym (some_same I64 w e)
  val_itself F32 w e = sym (some_same F32 w e)
  val_itself F64 w e = sym (some_same F64 w e)
  val_itself V128 w e = sym (some_same V128 w e)
  val_itself (Ref r) w e =
      let b = bind_some (named_heap names r.heap) (λ heap. Some (Ref (record { nullable = r.nullable; heap = heap }))) w e in
      sym (some_same (Ref (record { nullable = r.nullable; heap = b.0 })) w b.2) ∙ ap (λ (h : HeapType ℕ). Ref (record { nullable = r.nullable; heap = h })) (heap_itself r.heap b.0 b.1)

  block_itself : (b d : BlockType) → named_block names b ≡ Some d → d ≡ b
  block_itself NoResult d e = sym (some_same NoResult d e)
  block_itself (OneResult v) d e = let b = bind_some (named_val names v) (λ found. Some (OneResult found)) d e in sym (some_same (OneResult b.0) d b.2) ∙ ap OneResult (val_itself v b.0 b.1)
  block_itself (OfType t) d e = let b = bind_some (names Types t) (λ found. Some (OfType found)) d e in sym (some_same (OfType b.0) d b.2) ∙ ap OfType (same Types t b.0 b.1)

  arg_itself : (a d : Arg) → named_arg names locals a ≡ Some d → d ≡ a
  arg_itself (Index x) d e = let b = bind_some (names x.0 x.1) (λ found. Some (Index (x.0, found))) d e in sym (some_same (Index (x.0, b.0)) d b.2) ∙ ap (λ (n : ℕ). Index (x.0, n)) (same x.0 x.1 b.0 b.1)
  arg_itself (Local n) d e = let b = bind_some (locals n) (λ found. Some (Local found)) d e in sym (some_same (Local b.0) d b.2) ∙ ap Local (own n b.0 b.1)
  arg_itself (Value v) d e = let b = bind_some (named_val names v) (λ found. Some (Value found)) d e in sym (some_same (Value b.0) d b.2) ∙ ap Value (val_itself v b.0 b.1)
  arg_itself (Heap h) d e = let b = bind_some (named_heap names h) (λ found. Some (Heap found)) d e in sym (some_same (Heap b.0) d b.2) ∙ ap Heap (heap_itself h b.0 b.1)
  arg_itself (Block k) d e = let b = bind_some (named_block names k) (λ found. Some (Block found)) d e in sym (some_same (Block b.0) d b.2) ∙ ap Block (block_itself k b.0 b.1)
  arg_itself (Access flags memory offset) d e =
      let b = bind_some (names Memories memory) (λ found. Some (Access flags found offset)) d e in
      sym (some_same (Access flags b.0 offset) d b.2) ∙ ap (λ (n : ℕ). Access flags n offset) (same Memories memory b.0 b.1)
  arg_itself (Label n) d e = sym (some_same (Label n) d e)
  arg_itself (Number n) d e = sym (some_same (Number n) d e)
  arg_itself (Count n) d e = sym (some_same (Count n) d e)
  arg_itself (Byte n) d e = sym (some_same (Byte n) d e)
  arg_itself (S32 n) d e = sym (some_same (S32 n) d e)
  arg_itself (S64 n) d e = sym (some_same (S64 n) d e)
  arg_itself (Bits32 n) d e = sym (some_same (Bits32 n) d e)
  arg_itself (Bits64 n) d e = sym (some_same (Bits64 n) d e)

  args_itself : (args found : List Arg) → named_args names locals args ≡ Some found → found ≡ args
  args_itself [] found e = sym (some_same [] found e)
  args_itself (a ∷ args) found e =
      let b = bind_some (named_arg names locals a) (λ first. named_args names locals args >>= λ others. Some (first ∷ others)) found e in
      let d = bind_some (named_args names locals args) (λ others. Some (b.0 ∷ others)) found b.2 in
      sym (some_same (b.0 ∷ d.0) found d.2) ∙ ap₂ ◌∷◌ (arg_itself a b.0 b.1) (args_itself args d.0 d.1)

  op_itself : (o found : Op) → named_op names locals o ≡ Some found → found ≡ o
  op_itself o found e =
      let b = bind_some (named_args names locals o.args) (λ args. Some (record { op = o.op; args = args })) found e in
      sym (some_same (record { op = o.op; args = b.0 }) found b.2) ∙ ap (λ (args : List Arg). record { op = o.op; args = args }) (args_itself o.args b.0 b.1)

  pub ops_itself : (ops found : List Op) → named_ops names locals ops ≡ Some found → found ≡ ops
  ops_itself [] found e = sym (some_same [] found e)
  ops_itself (o ∷ ops) found e =
      let b = bind_some (named_op names locals o) (λ first. named_ops names locals ops >>= λ others. Some (first ∷ others)) found e in
      let d = bind_some (named_ops names locals ops) (λ others. Some (b.0 ∷ others)) found b.2 in
      sym (some_same (b.0 ∷ d.0) found d.2) ∙ ap₂ ◌∷◌ (op_itself o b.0 b.1) (ops_itself ops d.0 d.1)

-- ---- what sections declare, and the locals of a body

below_itself : (count i j : ℕ) → below count i ≡ Some j → j ≡ i
below_itself count i j e = by (nat_lt i count) e
  where
    by : (b : Bool) → (if b then Some i else None) ≡ Some j → j ≡ i
    by true f = sym (some_same i j f)
    by false f = absurd (cc)

pub declared_itself : (s : wire.Module) (space : Space) (i j : ℕ) → declared s space i ≡ Some j → j ≡ i
declared_itself s Types i j e = below_itself _ i j e
declared_itself s Functions i j e = below_itself _ i j e
declared_itself s Tables i j e = below_itself _ i j e
declared_itself s Memories i j e = below_itself _ i j e
declared_itself s Tags i j e = below_itself _ i j e
declared_itself s Globals i j e = below_itself _ i j e
declared_itself s Elements i j e = below_itself _ i j e
declared_itself s DataSegments i j e = below_itself _ i j e

pub locals_itself : (count i j : ℕ) → locals_from 0 count i ≡ Some j → j ≡ i
locals_itself count i j e =
    let within : i < length (range_with_len 0 count) = slice_get_within (range_with_len 0 count) i j e in
    let few : i < count = omega (arith, within, length-range_with_len 0 count) in
    sym (some_same (0 + i) j (sym (local_is 0 count i few) ∙ e)) ∙ (let z : 0 + i ≡ i = omega arith in z)
