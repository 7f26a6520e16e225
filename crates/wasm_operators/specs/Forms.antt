-- The forms of operators and of their arguments ("Binary Format > Instructions").
use Rattle.std.specs.Prelude.{ℕ, ◌*◌, ◌+◌, ◌-◌, ◌/◌, ◌%◌, List, [], ◌∷◌, ◌++◌, map, flat_map, Option, Some, None, nat_lt, nat_le, nat_eq, ◌&&◌, Bool}
use Rattle.wasm_opcodes.specs.declared.one_byte.TheConstants.{PREFIX_FB, PREFIX_FE}
use Rattle.wasm_opcodes.specs.declared.types.TheConstants.{EMPTY_BLOCK}
use Rattle.wasm_forms.specs.Grammar.{Form, Fails, Gives, Byte, Bytes, IndexFrom, ◌then◌, Led, Made, Where, Row, U32, U64, S32, S64, F32, F64, choose}
use Rattle.wasm_forms.specs.Types.{value_from, value_type, heap_type}
use Rattle.wasm_operators.specs.declared.kind.Kind.{Kind}
use Rattle.wasm_operators.specs.declared.kind.Kind.TheVariants as kinds
use Rattle.wasm_operators.specs.declared.operator.RawArg.{RawArg}
use Rattle.wasm_operators.specs.declared.operator.RawArg.TheVariants as args
use Rattle.wasm_operators.specs.declared.operator.RawBlock.{RawBlock}
use Rattle.wasm_operators.specs.declared.operator.RawBlock.TheVariants.{NoResult, OneResult, OfType}
use Rattle.wasm_operators.specs.Operators.{Op}
use Rattle.wasm_operators.specs.Table.{kinds_of}

-- one argument
abbrev pub one : {A : Type 0} → (A → RawArg) → Form A → Form (List RawArg)
one make f = Made (λ x. make x ∷ []) f

-- ---- "Control Instructions"

-- The type of a block that begins with this byte: 0x40 no result; another byte from 0x41 to 0x7F a value type; else the index of a
-- type, a number of 33 bits that isn't negative.
unfoldable pub block_from : ℕ → Form RawBlock
block_from b =
    choose (nat_eq b EMPTY_BLOCK) (Gives NoResult)
    (choose (nat_lt EMPTY_BLOCK b && nat_lt b 128) (Made OneResult (value_from b))
    (Made OfType (IndexFrom b)))

-- the type of a block: no result, one value type, or the index of a type (Control Instructions)
unfoldable pub block_type : Form RawBlock
block_type = Led Byte block_from

-- a catch clause: catch 0x00 and catch_ref 0x01 with a tag and a label, catch_all 0x02 and catch_all_ref 0x03 with a label
unfoldable pub catch_from : ℕ → Form (List RawArg)
catch_from b =
    choose (nat_lt b 2) (Made (λ x. args.Byte b ∷ args.Tag x.0 ∷ args.Label x.1 ∷ []) (U32 then U32))
    (choose (nat_lt b 4) (Made (λ l. args.Byte b ∷ args.Label l ∷ []) U32)
    Fails)

-- a catch clause of try_table: the byte of its kind, a tag where that kind has one, and a label (Control Instructions)
unfoldable pub catch_clause : Form (List RawArg)
catch_clause = Led Byte catch_from

-- the arguments that a list in an instruction gives: the count, and then those of each entry in turn
abbrev pub counted : {A : Type 0} → ℕ → (A → List RawArg) → List A → List RawArg
counted n make xs = args.Count n ∷ flat_map make xs

-- a count, and that many entries
abbrev pub several : {A : Type 0} → (A → List RawArg) → Form A → Form (List RawArg)
several make f = Led U32 (λ n. Made (counted n make) (Row f n))

-- ---- "Memory Instructions": flags; where their bit 0x40 is set a memory, else memory 0; and an offset

-- whether the flags of a memory argument have bit 0x40 set, which says that the index of a memory follows
abbrev pub has_memory : ℕ → Bool
has_memory flags = nat_eq ((flags / 64) % 2) 1

-- what follows the flags of a memory argument: the index of a memory where bit 0x40 is set, and the offset, a u64; the flags are kept
-- without that bit
unfoldable pub access_from : ℕ → Form RawArg
access_from flags =
    choose (has_memory flags) (Made (λ x. args.Access (flags - 64) x.0 x.1) (U32 then U64))
    (Made (λ offset. args.Access flags 0 offset) U64)

-- a memory argument: flags, which hold the alignment, a memory and an offset; flags from 0x80 on, which the standard does not have, are
-- taken too (Memory Instructions, memarg)
unfoldable pub access : Form RawArg
access = Led U32 access_from

-- ---- arguments

-- what stands for an argument of this kind
unfoldable pub arg_form : Kind → Form (List RawArg)
arg_form kinds.Nothing = Gives []
arg_form kinds.Block = one args.Block block_type
arg_form kinds.Catches = several (λ x. x) catch_clause
arg_form kinds.Labels = several (λ l. args.Label l ∷ []) U32
arg_form kinds.Label = one args.Label U32
arg_form kinds.Values = several (λ v. args.Value v ∷ []) value_type
arg_form kinds.Function = one args.Function U32
arg_form kinds.«Type» = one args.«Type» U32
arg_form kinds.Table = one args.Table U32
arg_form kinds.Memory = one args.Memory U32
arg_form kinds.Global = one args.Global U32
arg_form kinds.Tag = one args.Tag U32
arg_form kinds.Element = one args.Element U32
arg_form kinds.Data = one args.Data U32
arg_form kinds.Local = one args.Local U32
arg_form kinds.Access = one (λ x. x) access
arg_form kinds.Heap = one args.Heap heap_type
arg_form kinds.Number = one args.Number U32
arg_form kinds.Byte = one args.Byte Byte
arg_form kinds.SixteenBytes = Made (map args.Byte) (Bytes 16)
arg_form kinds.S32 = one args.S32 S32
arg_form kinds.S64 = one args.S64 S64
arg_form kinds.F32 = one args.F32 F32
arg_form kinds.F64 = one args.F64 F64

-- arguments one behind another
unfoldable pub args_form : List Kind → Form (List RawArg)
args_form [] = Gives []
args_form (kind ∷ rest) = Made (λ x. x.0 ++ x.1) (arg_form kind then args_form rest)

-- ---- operators

-- the operator of this number with these arguments
abbrev pub with_args : ℕ → List RawArg → Op
with_args op args = record { op = op; args = args }

-- what stands behind the number of an operator: the arguments that the table says
abbrev pub behind : ℕ → Option (List Kind) → Form Op
behind op None = Fails
behind op (Some kinds) = Made (with_args op) (args_form kinds)

-- what stands behind an operator's number: its arguments; nothing may where there is no such operator
unfoldable pub operator_of : ℕ → Form Op
operator_of op = behind op (kinds_of op)

-- 0xFB to 0xFE lead to a number
abbrev pub is_prefix : ℕ → Bool
is_prefix b = nat_le PREFIX_FB b && nat_le b PREFIX_FE

-- what stands behind the first byte of an operator; behind a prefix byte its number, below 65,536
unfoldable pub operator_from : ℕ → Form Op
operator_from b =
    choose (is_prefix b) (Led (Where (λ n. nat_lt n 65536) U32) (λ n. operator_of (b * 65536 + n)))
    (operator_of b)

-- an operator with its arguments: an instruction of the standard or of the proposals in the table, of a block only its beginning,
-- with `else` and `end` as operators of their own
unfoldable pub operator : Form Op
operator = Led Byte operator_from
