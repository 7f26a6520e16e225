-- What is named under a look-up is named alike under one that knows more.
use Rattle.std.proofs.Common.{◌≡◌, ℕ, List, [], ◌∷◌, ◌++◌, ◌∙◌}
use Rattle.std.specs.Prelude.{Bool, Option, Some, replicate}
use Rattle.wasm_forms.specs.Reading.{◌>>=◌}
use Rattle.wasm_forms.specs.declared.types.RawVal.{RawVal}
use Rattle.wasm_forms.proofs.Bind.{bind_at, bind_some}
use Rattle.walrus_base.specs.Types.{HeapType, OfHeap, Concrete, Exact, ValType, I32, I64, F32, F64, V128, Ref}
use Rattle.walrus_base.specs.Operators.{Space, Types, Memories, BlockType, NoResult, OneResult, OfType, Arg, Index, Label, Local, Number, Count, Byte, S32, S64, Bits32, Bits64, Value, Heap, Block, Access, Op}
use Rattle.walrus_code.specs.FromRaw.{val_of, ops_of}
use Rattle.walrus_code.specs.Names.{Lookup, named_heap, named_val, named_block, named_arg, named_args, named_op, named_ops}
use Rattle.walrus_bodies.specs.declared.features.Features.{Features}
use Rattle.walrus_bodies.specs.Body.{BodyReads, context, declared_types}

-- the second look-up finds what the first one does
abbrev pub KnowsMore : (names others : Lookup) → Type 0
KnowsMore names others = (space : Space) (i found : ℕ) → names space i ≡ Some found → others space i ≡ Some found

-- what two steps find, two that find more do
bind_on : {A B : Type 0} (o p : Option A) (f g : A → Option B) → ((x : A) → o ≡ Some x → p ≡ Some x) → ((x : A) (y : B) → f x ≡ Some y → g x ≡ Some y) → (y : B) → (o >>= f) ≡ Some y → (p >>= g) ≡ Some y
bind_on o p f g on next y e = let b = bind_some o f y e in bind_at p g b.0 (on b.0 b.1) ∙ next b.0 y b.2

-- the same where the second step finds one thing
then_on : {A B : Type 0} (o p : Option A) (f : A → Option B) → ((x : A) → o ≡ Some x → p ≡ Some x) → (y : B) → (o >>= f) ≡ Some y → (p >>= f) ≡ Some y
then_on o p f on y e = bind_on o p f f on (λ x z h. h) y e

module _ (names others : Lookup) (more : KnowsMore names others) where
  heap_on : (h found : HeapType ℕ) → named_heap names h ≡ Some found → named_heap others h ≡ Some found
  heap_on (OfHeap h) found e = e
  heap_on (Concrete t) found e = then_on (names Types t) (others Types t) (λ i. Some (Concrete i)) (more Types t) found e
  heap_on (Exact t) found e = then_on (names Types t) (others Types t) (λ i. Some (Exact i)) (more Types t) found e

  val_on : (v found : ValType ℕ) → named_val names v ≡ Some found → named_val others v ≡ Some found
  val_on (Ref r) found e = then_on (named_heap names r.heap) (named_heap others r.heap) (λ heap. Some (Ref (record { nullable = r.nullable; heap = heap }))) (heap_on r.heap) found e
  val_on I32 found e = e
  val_on I64 found e = e
  val_on F32 found e = e
  val_on F64 found e = e
  val_on V128 found e = e

  block_on : (b found : BlockType) → named_block names b ≡ Some found → named_block others b ≡ Some found
  block_on NoResult found e = e
  block_on (OneResult v) found e = then_on (named_val names v) (named_val others v) (λ w. Some (OneResult w)) (val_on v) found e
  block_on (OfType t) found e = then_on (names Types t) (others Types t) (λ i. Some (OfType i)) (more Types t) found e

  types_on : (ds : List (ℕ × RawVal)) (found : List (ValType ℕ)) → declared_types names ds ≡ Some found → declared_types others ds ≡ Some found
  types_on [] found e = e
  types_on (d ∷ ds) found e = bind_on (named_val names (val_of d.1)) (named_val others (val_of d.1))
      (λ v. declared_types names ds >>= λ rest. Some (replicate d.0 v ++ rest)) (λ v. declared_types others ds >>= λ rest. Some (replicate d.0 v ++ rest))
      (val_on (val_of d.1))
      (λ v y h. then_on (declared_types names ds) (declared_types others ds) (λ rest. Some (replicate d.0 v ++ rest)) (types_on ds) y h)
      found e

  module _ (locals : ℕ → Option ℕ) where
    arg_on : (a found : Arg) → named_arg names locals a ≡ Some found → named_arg others locals a ≡ Some found
    arg_on (Index x) found e = then_on (names x.0 x.1) (others x.0 x.1) (λ i. Some (Index (x.0, i))) (more x.0 x.1) found e
    arg_on (Value v) found e = then_on (named_val names v) (named_val others v) (λ w. Some (Value w)) (val_on v) found e
    arg_on (Heap h) found e = then_on (named_heap names h) (named_heap others h) (λ w. Some (Heap w)) (heap_on h) found e
    arg_on (Block b) found e = then_on (named_block names b) (named_block others b) (λ w. Some (Block w)) (block_on b) found e
    arg_on (Access flags memory offset) found e = then_on (names Memories memory) (others Memories memory) (λ i. Some (Access flags i offset)) (more Memories memory) found e
    arg_on (Local n) found e = e
    arg_on (Label n) found e = e
    arg_on (Number n) found e = e
    arg_on (Count n) found e = e
    arg_on (Byte n) found e = e
    arg_on (S32 n) found e = e
    arg_on (S64 n) found e = e
    arg_on (Bits32 n) found e = e
    arg_on (Bits64 n) found e = e

    args_on : (xs found : List Arg) → named_args names locals xs ≡ Some found → named_args others locals xs ≡ Some found
    args_on [] found e = e
    args_on (a ∷ xs) found e = bind_on (named_arg names locals a) (named_arg others locals a)
        (λ x. named_args names locals xs >>= λ rest. Some (x ∷ rest)) (λ x. named_args others locals xs >>= λ rest. Some (x ∷ rest))
        (arg_on a)
        (λ x y h. then_on (named_args names locals xs) (named_args others locals xs) (λ rest. Some (x ∷ rest)) (args_on xs) y h)
        found e

    op_on : (o found : Op) → named_op names locals o ≡ Some found → named_op others locals o ≡ Some found
    op_on o found e = then_on (named_args names locals o.args) (named_args others locals o.args) (λ args. let p : Op = record { op = o.op; args = args } in Some p) (args_on o.args) found e

    ops_on : (os found : List Op) → named_ops names locals os ≡ Some found → named_ops others locals os ≡ Some found
    ops_on [] found e = e
    ops_on (o ∷ os) found e = bind_on (named_op names locals o) (named_op others locals o)
        (λ x. named_ops names locals os >>= λ rest. Some (x ∷ rest)) (λ x. named_ops others locals os >>= λ rest. Some (x ∷ rest))
        (op_on o)
        (λ x y h. then_on (named_ops names locals os) (named_ops others locals os) (λ rest. Some (x ∷ rest)) (ops_on os) y h)
        found e

    -- a body reads the same
    pub reads_on : (p : ℕ → Bool) (f : Features) (text : List ℕ) (types : List (ValType ℕ)) (ops : List Op) → BodyReads (context names p f) locals text types ops → BodyReads (context others p f) locals text types ops
    reads_on p f text types ops h = record {
      front = h.front;
      back = h.back;
      parts = h.parts;
      declared = h.declared;
      declares = h.declares;
      typed = types_on h.declared types h.typed;
      operators = record {
        texts = h.operators.texts;
        spelled = h.operators.spelled;
        named = ops_on (ops_of h.operators.texts) ops h.operators.named;
        nested = h.operators.nested;
        allowed = h.operators.allowed;
        blocks = h.operators.blocks;
      };
    }
