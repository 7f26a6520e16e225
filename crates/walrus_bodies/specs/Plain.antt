-- What a plain body has not: legacy exceptions, wide arithmetic, ref.func, names of tags and segments, types in the place of values.
use Rattle.std.specs.Prelude.{ℕ, ◌+◌, Bool, true, false, ◌&&◌, List, nat_le, nat_lt}
use Rattle.std.specs.List.{list_all}
use Rattle.walrus_base.specs.Types.{HeapType, OfHeap, Concrete, Exact, ValType, I32, I64, F32, F64, V128, Ref}
use Rattle.walrus_base.specs.Operators.{Space, Types, Functions, Tables, Memories, Tags, Globals, Elements, DataSegments, BlockType, NoResult, OneResult, OfType, Arg, Index, Label, Local, Number, Count, Byte, S32, S64, Bits32, Bits64, Value, Heap, Block, Access, Op}
use Rattle.wasm_text.specs.Classes.{is_plain}
use Rattle.walrus_bodies.specs.Blocks.{are_nested}

-- the items that a plain body may name by their indices
abbrev pub is_plain_space : Space → Bool
is_plain_space Types = true
is_plain_space Functions = true
is_plain_space Tables = true
is_plain_space Memories = true
is_plain_space Globals = true
is_plain_space Tags = false
is_plain_space Elements = false
is_plain_space DataSegments = false

abbrev pub is_plain_heap : HeapType ℕ → Bool
is_plain_heap (OfHeap h) = true
is_plain_heap (Concrete t) = false
is_plain_heap (Exact t) = false

abbrev pub is_plain_value : ValType ℕ → Bool
is_plain_value (Ref r) = is_plain_heap r.heap
is_plain_value I32 = true
is_plain_value I64 = true
is_plain_value F32 = true
is_plain_value F64 = true
is_plain_value V128 = true

abbrev pub is_plain_block : BlockType → Bool
is_plain_block NoResult = true
is_plain_block (OneResult v) = is_plain_value v
is_plain_block (OfType t) = true

-- an argument of a body whose locals are so many from a place on
module _ (first count : ℕ) where
  abbrev pub is_plain_arg : Arg → Bool
  is_plain_arg (Index x) = is_plain_space x.0
  is_plain_arg (Local n) = nat_le first n && nat_lt n (first + count)
  is_plain_arg (Label n) = true
  is_plain_arg (Number n) = true
  is_plain_arg (Count n) = true
  is_plain_arg (Byte n) = true
  is_plain_arg (S32 z) = true
  is_plain_arg (S64 z) = true
  is_plain_arg (Bits32 n) = true
  is_plain_arg (Bits64 n) = true
  is_plain_arg (Value v) = is_plain_value v
  is_plain_arg (Heap h) = is_plain_heap h
  is_plain_arg (Block b) = is_plain_block b
  is_plain_arg (Access flags memory offset) = true

  abbrev pub is_plain_op : Op → Bool
  is_plain_op o = is_plain o.op && list_all is_plain_arg o.args

  -- plain operators that close each block and at last the function
  abbrev pub are_plain : List Op → Bool
  are_plain ops = list_all is_plain_op ops && are_nested ops
