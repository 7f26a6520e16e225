-- What operators and value types are spelled as, where each abstract heap type stands as one of its bytes.
use Rattle.std.proofs.Common.{◌≡◌, ℕ, suc, ◌<◌, ◌≤◌, Bool, true, false, List, [], ◌∷◌, map, refl, sym, ap, ap₂, ◌∙◌, arith, inl, inr}
use Rattle.std.specs.Prelude.{◌≢◌, ◌⊎◌, nat_eq, if◌then◌else◌}
use Rattle.std.specs.List.{AllByRecursion}
use Rattle.std.proofs.lemmas.Bool.Decides.{eqb_tells}
use Rattle.wasm_forms.specs.Types.{is_abstract}
use Rattle.wasm_forms.specs.declared.types.RawHeap.{RawHeap}
use Rattle.wasm_forms.specs.declared.types.RawHeap.TheVariants as raw_heap
use Rattle.wasm_forms.specs.declared.types.RawVal.{RawVal}
use Rattle.wasm_forms.specs.declared.types.RawVal.TheVariants as raw_val
use Rattle.wasm_operators.specs.declared.operator.RawArg.{RawArg}
use Rattle.wasm_operators.specs.declared.operator.RawArg.TheVariants as raw
use Rattle.wasm_operators.specs.declared.operator.RawBlock.{RawBlock}
use Rattle.wasm_operators.specs.declared.operator.RawBlock.TheVariants as raw_block
use Rattle.wasm_operators.specs.Operators as wire
use Rattle.wasm_operators.specs.Standing.{heap_spells, value_spells, block_spells}
use Rattle.wasm_forms.proofs.Stands.{abstract_range}
use Rattle.walrus_base.specs.Types.{AbstractHeap, FuncHeap, ExternHeap, AnyHeap, EqHeap, I31Heap, StructHeap, ArrayHeap, ExnHeap, NoneHeap, NoExternHeap, NoFuncHeap, NoExnHeap, HeapType, OfHeap, Concrete, Exact, ValType, I32, I64, F32, F64, V128, Ref}
use Rattle.walrus_base.specs.Operators.{Space, Types, Functions, Tables, Memories, Tags, Globals, Elements, DataSegments, BlockType, NoResult, OneResult, OfType, Arg, Index, Label, Local, Number, Count, Byte, S32, S64, Bits32, Bits64, Value, Heap, Block, Access, Op}
use Rattle.walrus_code.specs.FromRaw.{abstract_of, heap_of, val_of, block_of, arg_of, op_of, ops_of}
use Rattle.wasm_operators.proofs.TextsStand.{ArgGood, ArgsGood}

-- ---- heap types

abbrev pub byte_of : AbstractHeap → ℕ
byte_of ExnHeap = 0x69
byte_of ArrayHeap = 0x6A
byte_of StructHeap = 0x6B
byte_of I31Heap = 0x6C
byte_of EqHeap = 0x6D
byte_of AnyHeap = 0x6E
byte_of ExternHeap = 0x6F
byte_of FuncHeap = 0x70
byte_of NoneHeap = 0x71
byte_of NoExternHeap = 0x72
byte_of NoFuncHeap = 0x73
byte_of NoExnHeap = 0x74

above : (n b : ℕ) → n ≤ b → b ≢ n → suc n ≤ b
above n b low apart = omega (arith, low, apart)

told : (b n : ℕ) (h rest : AbstractHeap) → byte_of h ≡ n → n ≤ b → (suc n ≤ b → byte_of rest ≡ b) → ((nat_eq b n ≡ true) × (b ≡ n)) ⊎ ((nat_eq b n ≡ false) × (b ≢ n)) → byte_of (if nat_eq b n then h else rest) ≡ b
told b n h rest is low later (inl e) = ap (λ (t : Bool). byte_of (if t then h else rest)) e.0 ∙ is ∙ sym e.1
told b n h rest is low later (inr e) = ap (λ (t : Bool). byte_of (if t then h else rest)) e.0 ∙ later (above n b low e.1)

tell : (b n : ℕ) (h rest : AbstractHeap) → byte_of h ≡ n → n ≤ b → (suc n ≤ b → byte_of rest ≡ b) → byte_of (if nat_eq b n then h else rest) ≡ b
tell b n h rest is low later = told b n h rest is low later (eqb_tells b n)

byte_back : (b : ℕ) → is_abstract b ≡ true → byte_of (abstract_of b) ≡ b
byte_back b is =
    let range = abstract_range b is in
    let low : 0x68 < b = range.0 in
    let high : b < 0x75 = range.1 in
    let last : 0x74 ≤ b → 0x74 ≡ b = (λ l. omega (arith, l, high)) in
    tell b 0x69 ExnHeap _ refl (omega (arith, low)) (λ l.
    tell b 0x6A ArrayHeap _ refl l (λ l.
    tell b 0x6B StructHeap _ refl l (λ l.
    tell b 0x6C I31Heap _ refl l (λ l.
    tell b 0x6D EqHeap _ refl l (λ l.
    tell b 0x6E AnyHeap _ refl l (λ l.
    tell b 0x6F ExternHeap _ refl l (λ l.
    tell b 0x70 FuncHeap _ refl l (λ l.
    tell b 0x71 NoneHeap _ refl l (λ l.
    tell b 0x72 NoExternHeap _ refl l (λ l.
    tell b 0x73 NoFuncHeap NoExnHeap refl l last))))))))))

abbrev pub raw_heap_of : HeapType ℕ → RawHeap
raw_heap_of (OfHeap h) = raw_heap.Abstract (byte_of h)
raw_heap_of (Concrete t) = raw_heap.Index t
raw_heap_of (Exact t) = raw_heap.Index t

pub heap_back : (h : RawHeap) → heap_spells h ≡ true → raw_heap_of (heap_of h) ≡ h
heap_back (raw_heap.Abstract b) is = ap raw_heap.Abstract (byte_back b is)
heap_back (raw_heap.Index t) is = refl

-- ---- value types

abbrev pub raw_val_of : ValType ℕ → RawVal
raw_val_of I32 = raw_val.I32
raw_val_of I64 = raw_val.I64
raw_val_of F32 = raw_val.F32
raw_val_of F64 = raw_val.F64
raw_val_of V128 = raw_val.V128
raw_val_of (Ref r) = raw_val.Ref (record { nullable = r.nullable; heap = raw_heap_of r.heap })

pub val_back : (v : RawVal) → value_spells v ≡ true → raw_val_of (val_of v) ≡ v
val_back raw_val.I32 is = refl
val_back raw_val.I64 is = refl
val_back raw_val.F32 is = refl
val_back raw_val.F64 is = refl
val_back raw_val.V128 is = refl
val_back (raw_val.Ref r) is = ap (λ (h : RawHeap). raw_val.Ref (record { nullable = r.nullable; heap = h })) (heap_back r.heap is)

pub one_val : (v w : RawVal) → value_spells v ≡ true → value_spells w ≡ true → val_of v ≡ val_of w → v ≡ w
one_val v w is also same = sym (val_back v is) ∙ ap raw_val_of same ∙ val_back w also

abbrev raw_block_of : BlockType → RawBlock
raw_block_of NoResult = raw_block.NoResult
raw_block_of (OneResult v) = raw_block.OneResult (raw_val_of v)
raw_block_of (OfType t) = raw_block.OfType t

block_back : (b : RawBlock) → block_spells b ≡ true → raw_block_of (block_of b) ≡ b
block_back raw_block.NoResult is = refl
block_back (raw_block.OneResult v) is = ap raw_block.OneResult (val_back v is)
block_back (raw_block.OfType t) is = refl

-- ---- arguments

abbrev raw_index : Space → ℕ → RawArg
raw_index Types n = raw.«Type» n
raw_index Functions n = raw.Function n
raw_index Tables n = raw.Table n
raw_index Memories n = raw.Memory n
raw_index Tags n = raw.Tag n
raw_index Globals n = raw.Global n
raw_index Elements n = raw.Element n
raw_index DataSegments n = raw.Data n

abbrev raw_arg_of : Arg → RawArg
raw_arg_of (Index x) = raw_index x.0 x.1
raw_arg_of (Local n) = raw.Local n
raw_arg_of (Label n) = raw.Label n
raw_arg_of (Count n) = raw.Count n
raw_arg_of (Number n) = raw.Number n
raw_arg_of (Byte n) = raw.Byte n
raw_arg_of (S32 z) = raw.S32 z
raw_arg_of (S64 z) = raw.S64 z
raw_arg_of (Bits32 n) = raw.F32 n
raw_arg_of (Bits64 n) = raw.F64 n
raw_arg_of (Value v) = raw.Value (raw_val_of v)
raw_arg_of (Heap h) = raw.Heap (raw_heap_of h)
raw_arg_of (Block b) = raw.Block (raw_block_of b)
raw_arg_of (Access flags memory offset) = raw.Access flags memory offset

arg_back : (x : RawArg) → ArgGood x → raw_arg_of (arg_of x) ≡ x
arg_back (raw.Value v) is = ap raw.Value (val_back v is)
arg_back (raw.Heap h) is = ap raw.Heap (heap_back h is)
arg_back (raw.Block b) is = ap raw.Block (block_back b is)
arg_back (raw.Function n) is = refl
arg_back (raw.«Type» n) is = refl
arg_back (raw.Table n) is = refl
arg_back (raw.Memory n) is = refl
arg_back (raw.Global n) is = refl
arg_back (raw.Tag n) is = refl
arg_back (raw.Element n) is = refl
arg_back (raw.Data n) is = refl
arg_back (raw.Local n) is = refl
arg_back (raw.Label n) is = refl
arg_back (raw.Count n) is = refl
arg_back (raw.Number n) is = refl
arg_back (raw.Byte n) is = refl
arg_back (raw.S32 z) is = refl
arg_back (raw.S64 z) is = refl
arg_back (raw.F32 n) is = refl
arg_back (raw.F64 n) is = refl
arg_back (raw.Access flags memory offset) is = refl

args_back : (xs : List RawArg) → ArgsGood xs → map raw_arg_of (map arg_of xs) ≡ xs
args_back [] all = refl
args_back (x ∷ xs) all = ap₂ ◌∷◌ (arg_back x all.0) (args_back xs all.1)

-- ---- operators

abbrev raw_op_of : Op → wire.Op
raw_op_of o = record { op = o.op; args = map raw_arg_of o.args }

op_back : (o : wire.Op) → ArgsGood o.args → raw_op_of (op_of o) ≡ o
op_back o all = ap (λ (xs : List RawArg). record { op = o.op; args = xs }) (args_back o.args all)

abbrev pub OpGood : wire.Op → Type 0
OpGood o = ArgsGood o.args

ops_back : (texts : List wire.Op) → AllByRecursion OpGood texts → map raw_op_of (ops_of texts) ≡ texts
ops_back [] all = refl
ops_back (o ∷ os) all = ap₂ ◌∷◌ (op_back o all.0) (ops_back os all.1)

-- operators are spelled as one text
pub one_text : (texts others : List wire.Op) → AllByRecursion OpGood texts → AllByRecursion OpGood others → ops_of texts ≡ ops_of others → texts ≡ others
one_text texts others all also same = sym (ops_back texts all) ∙ ap (map raw_op_of) same ∙ ops_back others also
