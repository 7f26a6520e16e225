-- The one spelling of operators that is written, and which of them it spells ("Binary Format > Instructions").
use Rattle.std.specs.Prelude.{ℕ, ◌+◌, ◌/◌, ◌%◌, List, [], ◌∷◌, ◌++◌, nat_lt, nat_eq, if◌then◌else◌}
use Rattle.wasm_opcodes.specs.declared.types.TheConstants.{EMPTY_BLOCK}
use Rattle.wasm_forms.specs.Spelling.{number_bytes, integer_bytes, index_bytes, f32_bytes, f64_bytes, row_bytes}
use Rattle.wasm_forms.specs.Types.{value_bytes, heap_bytes}
use Rattle.wasm_operators.specs.declared.operator.RawArg.{RawArg}
use Rattle.wasm_operators.specs.declared.operator.RawArg.TheVariants as args
use Rattle.wasm_operators.specs.declared.operator.RawBlock.{RawBlock}
use Rattle.wasm_operators.specs.declared.operator.RawBlock.TheVariants.{NoResult, OneResult, OfType}
use Rattle.wasm_operators.specs.Operators.{Op}

-- ---- arguments

-- a block's type as it is written: 0x40 for no result, a value type, or the index of a type as an s33 (Control Instructions)
abbrev pub block_bytes : RawBlock → List ℕ
block_bytes NoResult = EMPTY_BLOCK ∷ []
block_bytes (OneResult v) = value_bytes v
block_bytes (OfType t) = index_bytes t

-- bit 0x40 of the flags and the memory where it isn't memory 0
abbrev pub access_bytes : (flags memory offset : ℕ) → List ℕ
access_bytes flags memory offset =
    if nat_eq memory 0 then number_bytes flags ++ number_bytes offset
    else number_bytes (flags + 64) ++ number_bytes memory ++ number_bytes offset

-- one argument of an instruction as it is written, integers in their shortest spelling
abbrev pub arg_bytes : RawArg → List ℕ
arg_bytes (args.Function n) = number_bytes n
arg_bytes (args.«Type» n) = number_bytes n
arg_bytes (args.Table n) = number_bytes n
arg_bytes (args.Memory n) = number_bytes n
arg_bytes (args.Global n) = number_bytes n
arg_bytes (args.Tag n) = number_bytes n
arg_bytes (args.Element n) = number_bytes n
arg_bytes (args.Data n) = number_bytes n
arg_bytes (args.Local n) = number_bytes n
arg_bytes (args.Label n) = number_bytes n
arg_bytes (args.Count n) = number_bytes n
arg_bytes (args.Number n) = number_bytes n
arg_bytes (args.Byte b) = b ∷ []
arg_bytes (args.S32 z) = integer_bytes z
arg_bytes (args.S64 z) = integer_bytes z
arg_bytes (args.F32 bits) = f32_bytes bits
arg_bytes (args.F64 bits) = f64_bytes bits
arg_bytes (args.Value v) = value_bytes v
arg_bytes (args.Heap h) = heap_bytes h
arg_bytes (args.Block b) = block_bytes b
arg_bytes (args.Access flags memory offset) = access_bytes flags memory offset

-- ---- operators

-- the byte, or the prefix byte and the number; of a number that no operator has, the lowest byte of these
abbrev pub code_bytes : ℕ → List ℕ
code_bytes op = if nat_lt op 65536 then (op % 256) ∷ [] else ((op / 65536) % 256) ∷ number_bytes (op % 65536)

-- an operator as it is written: its byte, or its prefix byte and number, and its arguments one after another
abbrev pub op_bytes : Op → List ℕ
op_bytes o = code_bytes o.op ++ row_bytes arg_bytes o.args
