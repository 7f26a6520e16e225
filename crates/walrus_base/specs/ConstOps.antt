-- Constant expressions as operators ("Valid > Instructions > Expressions > Constant Expressions"), with the place of an id for each item that is
-- named. The `end` that closes an expression isn't among them.
use Rattle.std.specs.Prelude.{◌≡◌, ℕ, List, [], ◌∷◌, map}
use Rattle.wasm_opcodes.specs.declared.one_byte.TheConstants.{GLOBAL_GET, I32_CONST, I64_CONST, F32_CONST, F64_CONST, I32_ADD, I32_SUB, I32_MUL, I64_ADD, I64_SUB, I64_MUL, REF_NULL, REF_FUNC, PREFIX_FB, PREFIX_FD}
use Rattle.wasm_opcodes.specs.declared.behind_fb.TheConstants.{STRUCT_NEW, STRUCT_NEW_DEFAULT, ARRAY_NEW, ARRAY_NEW_DEFAULT, ARRAY_NEW_FIXED, ANY_CONVERT_EXTERN, EXTERN_CONVERT_ANY, REF_I31}
use Rattle.wasm_opcodes.specs.declared.behind_fd.TheConstants.{V128_CONST}
use Rattle.wasm_opcodes.specs.Prefixed.{opcode_behind}
use Rattle.walrus_base.specs.Id.{place}
use Rattle.walrus_base.specs.Operators.{Op, Arg, Index, Number, Byte, S32, S64, Bits32, Bits64, Heap, Globals, type_item, function_item}
use Rattle.walrus_base.specs.Value.{heap_type}
use Rattle.walrus_base.specs.declared.const_expr.Value.{Value}
use Rattle.walrus_base.specs.declared.const_expr.Value.TheVariants as constant
use Rattle.walrus_base.specs.declared.const_expr.ConstOp.{ConstOp}
use Rattle.walrus_base.specs.declared.const_expr.ConstOp.TheVariants.{GlobalGet, I32Const, I64Const, F32Const, F64Const, V128Const, I32Add, I32Sub, I32Mul, I64Add, I64Sub, I64Mul, RefNull, RefFunc, StructNew, StructNewDefault, ArrayNew, ArrayNewDefault, ArrayNewFixed, AnyConvertExtern, ExternConvertAny, RefI31}
use Rattle.walrus_base.specs.declared.const_expr.ConstExpr.{ConstExpr}
use Rattle.walrus_base.specs.declared.const_expr.ConstExpr.TheVariants as expression

abbrev pub plain : ℕ → List Arg → Op
plain op args = record { op = op; args = args }

-- an operator behind the prefix FB ("Binary Format > Instructions > Reference Instructions", "Aggregate Instructions")
abbrev pub behind_fb : ℕ → List Arg → Op
behind_fb number args = plain (opcode_behind PREFIX_FB number) args

-- v128.const ("Binary Format > Instructions > Vector Instructions")
abbrev pub vector_const : List ℕ → Op
vector_const bytes = plain (opcode_behind PREFIX_FD V128_CONST) (map Byte bytes)

-- "Binary Format > Instructions"
abbrev pub const_op : ConstOp → Op
const_op (GlobalGet id) = plain GLOBAL_GET (Index (Globals, place id) ∷ [])
const_op (I32Const n) = plain I32_CONST (S32 n ∷ [])
const_op (I64Const n) = plain I64_CONST (S64 n ∷ [])
const_op (F32Const bits) = plain F32_CONST (Bits32 bits ∷ [])
const_op (F64Const bits) = plain F64_CONST (Bits64 bits ∷ [])
const_op (V128Const bytes) = vector_const bytes
const_op I32Add = plain I32_ADD []
const_op I32Sub = plain I32_SUB []
const_op I32Mul = plain I32_MUL []
const_op I64Add = plain I64_ADD []
const_op I64Sub = plain I64_SUB []
const_op I64Mul = plain I64_MUL []
const_op (RefNull heap) = plain REF_NULL (Heap (heap_type heap) ∷ [])
const_op (RefFunc id) = plain REF_FUNC (Index (function_item (place id)) ∷ [])
const_op (StructNew id) = behind_fb STRUCT_NEW (Index (type_item (place id)) ∷ [])
const_op (StructNewDefault id) = behind_fb STRUCT_NEW_DEFAULT (Index (type_item (place id)) ∷ [])
const_op (ArrayNew id) = behind_fb ARRAY_NEW (Index (type_item (place id)) ∷ [])
const_op (ArrayNewDefault id) = behind_fb ARRAY_NEW_DEFAULT (Index (type_item (place id)) ∷ [])
const_op (ArrayNewFixed id count) = behind_fb ARRAY_NEW_FIXED (Index (type_item (place id)) ∷ Number count ∷ [])
const_op AnyConvertExtern = behind_fb ANY_CONVERT_EXTERN []
const_op ExternConvertAny = behind_fb EXTERN_CONVERT_ANY []
const_op RefI31 = behind_fb REF_I31 []

abbrev pub value_op : Value → Op
value_op (constant.I32 n) = const_op (I32Const n)
value_op (constant.I64 n) = const_op (I64Const n)
value_op (constant.F32 bits) = const_op (F32Const bits)
value_op (constant.F64 bits) = const_op (F64Const bits)
value_op (constant.V128 bytes) = vector_const bytes

-- the operators of a constant expression, in order
abbrev pub const_ops : ConstExpr → List Op
const_ops (expression.Value v) = value_op v ∷ []
const_ops (expression.Global id) = const_op (GlobalGet id) ∷ []
const_ops (expression.RefNull ty) = const_op (RefNull ty.heap_type) ∷ []
const_ops (expression.RefFunc id) = const_op (RefFunc id) ∷ []
const_ops (expression.Extended ops) = map const_op ops.items

-- the same case with the same parts
abbrev pub SameExpr : ConstExpr → ConstExpr → Type 0
SameExpr (expression.Value v) (expression.Value w) = v ≡ w
SameExpr (expression.Global i) (expression.Global j) = i ≡ j
SameExpr (expression.RefNull s) (expression.RefNull t) = s ≡ t
SameExpr (expression.RefFunc i) (expression.RefFunc j) = i ≡ j
SameExpr (expression.Extended xs) (expression.Extended ys) = xs.items ≡ ys.items
SameExpr a b = ⊥
