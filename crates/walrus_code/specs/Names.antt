-- Operators put through a look-up of what they name: from indices to places, or back.
use Rattle.std.specs.Prelude.{◌≡◌, ℕ, List, [], ◌∷◌, Option, Some}
use Rattle.wasm_forms.specs.Reading.{◌>>=◌}
use Rattle.walrus_base.specs.Types.{HeapType, OfHeap, Concrete, Exact, ValType, I32, I64, F32, F64, V128, Ref}
use Rattle.walrus_base.specs.Operators.{Space, Types, Memories, BlockType, NoResult, OneResult, OfType, Arg, Index, Label, Local, Number, Count, Byte, S32, S64, Bits32, Bits64, Value, Heap, Block, Access, Op}

-- another number for the items of each space, where there is one
abbrev pub Lookup : Type 0
Lookup = Space → ℕ → Option ℕ

-- what the first look-up finds, the second one leads back
abbrev pub LeadsBack : Lookup → Lookup → Type 0
LeadsBack there back = (space : Space) (number found : ℕ) → there space number ≡ Some found → back space found ≡ Some number

-- each local that one look-up finds leads back by the other
abbrev pub LocalsLeadBack : (ℕ → Option ℕ) → (ℕ → Option ℕ) → Type 0
LocalsLeadBack there back = (number found : ℕ) → there number ≡ Some found → back found ≡ Some number

module _ (names : Lookup) where
  -- a heap type with the number of the type that it names, where it names one, put through the look-up; none where that number isn't found
  abbrev pub named_heap : HeapType ℕ → Option (HeapType ℕ)
  named_heap (OfHeap h) = Some (OfHeap h)
  named_heap (Concrete t) = names Types t >>= λ found. Some (Concrete found)
  named_heap (Exact t) = names Types t >>= λ found. Some (Exact found)

  -- a value type with the number of the type that it names, where it names one, put through the look-up; none where that number isn't found
  abbrev pub named_val : ValType ℕ → Option (ValType ℕ)
  named_val (Ref r) = named_heap r.heap >>= λ heap. Some (Ref (record { nullable = r.nullable; heap = heap }))
  named_val I32 = Some I32
  named_val I64 = Some I64
  named_val F32 = Some F32
  named_val F64 = Some F64
  named_val V128 = Some V128

  -- the type of a block with the number of the type that it names, where it names one, put through the look-up; none where that number isn't found
  abbrev pub named_block : BlockType → Option BlockType
  named_block NoResult = Some NoResult
  named_block (OneResult v) = named_val v >>= λ found. Some (OneResult found)
  named_block (OfType t) = names Types t >>= λ found. Some (OfType found)

  module _ (locals : ℕ → Option ℕ) where
    -- the argument with each number of an item or a local in it looked up
    abbrev pub named_arg : Arg → Option Arg
    named_arg (Index x) = names x.0 x.1 >>= λ found. Some (Index (x.0, found))
    named_arg (Local n) = locals n >>= λ found. Some (Local found)
    named_arg (Value v) = named_val v >>= λ found. Some (Value found)
    named_arg (Heap h) = named_heap h >>= λ found. Some (Heap found)
    named_arg (Block b) = named_block b >>= λ found. Some (Block found)
    named_arg (Access flags memory offset) = names Memories memory >>= λ found. Some (Access flags found offset)
    named_arg (Label n) = Some (Label n)
    named_arg (Number n) = Some (Number n)
    named_arg (Count n) = Some (Count n)
    named_arg (Byte n) = Some (Byte n)
    named_arg (S32 n) = Some (S32 n)
    named_arg (S64 n) = Some (S64 n)
    named_arg (Bits32 n) = Some (Bits32 n)
    named_arg (Bits64 n) = Some (Bits64 n)

    -- the arguments with each number of an item or a local in them looked up; none where one isn't found
    abbrev pub named_args : List Arg → Option (List Arg)
    named_args [] = Some []
    named_args (arg ∷ rest) = named_arg arg >>= λ found. named_args rest >>= λ others. Some (found ∷ others)

    -- the operator with each number of an item or a local in its arguments looked up; none where one isn't found
    abbrev pub named_op : Op → Option Op
    named_op o = named_args o.args >>= λ args. Some (record { op = o.op; args = args })

    -- the operators with each number of an item or a local in them looked up; none where one isn't found
    abbrev pub named_ops : List Op → Option (List Op)
    named_ops [] = Some []
    named_ops (o ∷ rest) = named_op o >>= λ found. named_ops rest >>= λ others. Some (found ∷ others)

-- operators put through look-ups, and then through others that lead back, are the same operators again
abbrev pub OperatorsLeadBack : Type 0
OperatorsLeadBack = (there back : Lookup) (locals locals_back : ℕ → Option ℕ) → LeadsBack there back → LocalsLeadBack locals locals_back → (ops found : List Op) → named_ops there locals ops ≡ Some found → named_ops back locals_back found ≡ Some ops
