-- Operators as bytes spell them, as operators of the standard over indices.
use Rattle.std.specs.Prelude.{ℕ, List, map, nat_eq, if◌then◌else◌}
use Rattle.wasm_opcodes.specs.declared.types.TheConstants.{HEAP_EXN, HEAP_ARRAY, HEAP_STRUCT, HEAP_I31, HEAP_EQ, HEAP_ANY, HEAP_EXTERN, HEAP_FUNC, HEAP_NONE, HEAP_NO_EXTERN, HEAP_NO_FUNC}
use Rattle.wasm_forms.specs.declared.types.RawHeap.{RawHeap}
use Rattle.wasm_forms.specs.declared.types.RawHeap.TheVariants as raw_heap
use Rattle.wasm_forms.specs.declared.types.RawVal.{RawVal}
use Rattle.wasm_forms.specs.declared.types.RawVal.TheVariants as raw_val
use Rattle.wasm_operators.specs.declared.operator.RawArg.{RawArg}
use Rattle.wasm_operators.specs.declared.operator.RawArg.TheVariants as raw
use Rattle.wasm_operators.specs.declared.operator.RawBlock.{RawBlock}
use Rattle.wasm_operators.specs.declared.operator.RawBlock.TheVariants as raw_block
use Rattle.wasm_operators.specs.Operators as wire
use Rattle.walrus_base.specs.Types.{AbstractHeap, FuncHeap, ExternHeap, AnyHeap, EqHeap, I31Heap, StructHeap, ArrayHeap, ExnHeap, NoneHeap, NoExternHeap, NoFuncHeap, NoExnHeap, HeapType, OfHeap, Concrete, ValType, I32, I64, F32, F64, V128, Ref}
use Rattle.walrus_base.specs.Operators.{Types, Functions, Tables, Memories, Tags, Globals, Elements, DataSegments, BlockType, NoResult, OneResult, OfType, Arg, Index, Label, Local, Number, Count, Byte, S32, S64, Bits32, Bits64, Value, Heap, Block, Access, Op}

-- the abstract heap type of a byte from 0x69 to 0x74 ("Binary Format > Types > Heap Types")
abbrev pub abstract_of : ℕ → AbstractHeap
abstract_of b =
    if nat_eq b HEAP_EXN then ExnHeap
    else if nat_eq b HEAP_ARRAY then ArrayHeap
    else if nat_eq b HEAP_STRUCT then StructHeap
    else if nat_eq b HEAP_I31 then I31Heap
    else if nat_eq b HEAP_EQ then EqHeap
    else if nat_eq b HEAP_ANY then AnyHeap
    else if nat_eq b HEAP_EXTERN then ExternHeap
    else if nat_eq b HEAP_FUNC then FuncHeap
    else if nat_eq b HEAP_NONE then NoneHeap
    else if nat_eq b HEAP_NO_EXTERN then NoExternHeap
    else if nat_eq b HEAP_NO_FUNC then NoFuncHeap
    else NoExnHeap

-- a heap type as bytes spell it, as one of the standard: an abstract one, or a type by its index; never an exact one
abbrev pub heap_of : RawHeap → HeapType ℕ
heap_of (raw_heap.Abstract b) = OfHeap (abstract_of b)
heap_of (raw_heap.Index t) = Concrete t

-- a value type as bytes spell it, as one of the standard over type indices
abbrev pub val_of : RawVal → ValType ℕ
val_of raw_val.I32 = I32
val_of raw_val.I64 = I64
val_of raw_val.F32 = F32
val_of raw_val.F64 = F64
val_of raw_val.V128 = V128
val_of (raw_val.Ref r) = Ref (record { nullable = r.nullable; heap = heap_of r.heap })

-- the type of a block as bytes spell it, as one of the standard: nothing, one result, or a function type by its index
abbrev pub block_of : RawBlock → BlockType
block_of raw_block.NoResult = NoResult
block_of (raw_block.OneResult v) = OneResult (val_of v)
block_of (raw_block.OfType t) = OfType t

-- an argument of an operator as bytes spell it, as one over indices: the index of an item has its index space beside it, all else stays what it is
abbrev pub arg_of : RawArg → Arg
arg_of (raw.Function n) = Index (Functions, n)
arg_of (raw.«Type» n) = Index (Types, n)
arg_of (raw.Table n) = Index (Tables, n)
arg_of (raw.Memory n) = Index (Memories, n)
arg_of (raw.Global n) = Index (Globals, n)
arg_of (raw.Tag n) = Index (Tags, n)
arg_of (raw.Element n) = Index (Elements, n)
arg_of (raw.Data n) = Index (DataSegments, n)
arg_of (raw.Local n) = Local n
arg_of (raw.Label n) = Label n
arg_of (raw.Count n) = Count n
arg_of (raw.Number n) = Number n
arg_of (raw.Byte b) = Byte b
arg_of (raw.S32 z) = S32 z
arg_of (raw.S64 z) = S64 z
arg_of (raw.F32 bits) = Bits32 bits
arg_of (raw.F64 bits) = Bits64 bits
arg_of (raw.Value v) = Value (val_of v)
arg_of (raw.Heap h) = Heap (heap_of h)
arg_of (raw.Block b) = Block (block_of b)
arg_of (raw.Access flags memory offset) = Access flags memory offset

-- an operator as bytes spell it, as one of the standard over indices: the same operator, with each of its arguments so understood
abbrev pub op_of : wire.Op → Op
op_of o = record { op = o.op; args = map arg_of o.args }

-- a list of operators as bytes spell them, as operators of the standard over indices, in the same order
abbrev pub ops_of : List wire.Op → List Op
ops_of ops = map op_of ops
