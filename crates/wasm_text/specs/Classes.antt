-- The classes of operators by their first byte, and the table of operators (Binary Format > Instructions).
use Rattle.std.specs.Prelude.{◌≡◌, ℕ, Bool, true, false, not, nat_eq, nat_le, ◌&&◌, ◌||◌, List, [], ◌∷◌, Some}
use Rattle.wasm_opcodes.specs.declared.one_byte.TheConstants.{TRY, CATCH, RETHROW, DELEGATE, CATCH_ALL, REF_FUNC, PREFIX_FC}
use Rattle.wasm_opcodes.specs.declared.behind_fc.TheConstants.{I64_ADD128, I64_MUL_WIDE_U}
use Rattle.wasm_opcodes.specs.Prefixed.{opcode_behind}
use Rattle.wasm_operators.specs.declared.kind.Kind.{Kind}
use Rattle.wasm_operators.specs.declared.kind.Kind.TheVariants as kinds
use Rattle.wasm_operators.specs.Table.{kinds_of}
use Rattle.wasm_operators.specs.Forms.{is_prefix}
use Rattle.wasm_text.specs.declared.class.Class.{Class}
use Rattle.wasm_text.specs.declared.class.Class.TheVariants as class

-- neither of legacy exceptions, nor ref.func, nor of wide arithmetic
abbrev pub is_plain : ℕ → Bool
is_plain op =
    not (nat_eq op TRY || nat_eq op CATCH || nat_eq op RETHROW || nat_eq op DELEGATE || nat_eq op CATCH_ALL || nat_eq op REF_FUNC)
    && not (nat_le (opcode_behind PREFIX_FC I64_ADD128) op && nat_le op (opcode_behind PREFIX_FC I64_MUL_WIDE_U))

-- a plain operator with arguments of these kinds
pub record HasKinds (op : ℕ) (listed : List Kind) : Type 0 where
  pub kinds : kinds_of op ≡ Some listed
  pub plain : is_plain op ≡ true

-- the same of an operator that is one byte
pub record IsOneByte (op : ℕ) (listed : List Kind) : Type 0 where
  pub has : HasKinds op listed
  pub alone : is_prefix op ≡ false

-- the kinds of the arguments of a class that is one byte and its arguments
abbrev pub class_kinds : Class → List Kind
class_kinds class.Other = []
class_kinds class.Prefix = []
class_kinds class.Bare = []
class_kinds class.Else = []
class_kinds class.End = []
class_kinds class.Block = kinds.Block ∷ []
class_kinds class.Label = kinds.Label ∷ []
class_kinds class.Labels = kinds.Labels ∷ kinds.Label ∷ []
class_kinds class.Function = kinds.Function ∷ []
class_kinds class.«Type» = kinds.«Type» ∷ []
class_kinds class.TypeTable = kinds.«Type» ∷ kinds.Table ∷ []
class_kinds class.Local = kinds.Local ∷ []
class_kinds class.Global = kinds.Global ∷ []
class_kinds class.Table = kinds.Table ∷ []
class_kinds class.Access = kinds.Access ∷ []
class_kinds class.Memory = kinds.Memory ∷ []
class_kinds class.S32 = kinds.S32 ∷ []
class_kinds class.S64 = kinds.S64 ∷ []
class_kinds class.F32 = kinds.F32 ∷ []
class_kinds class.F64 = kinds.F64 ∷ []

-- what a class says of a byte
abbrev pub Fits : Class → ℕ → Type 0
Fits class.Other b = Unit {0}
Fits class.Prefix b = b ≡ PREFIX_FC
Fits c b = IsOneByte b (class_kinds c)
