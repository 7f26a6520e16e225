-- The shortest form of a constant expression in memory.
use Rattle.std.specs.Prelude.{Bool, true, false, not, List, [], ◌∷◌}
use Rattle.walrus_base.specs.declared.const_expr.ConstOp.{ConstOp}
use Rattle.walrus_base.specs.declared.const_expr.ConstOp.TheVariants as ops
use Rattle.walrus_base.specs.declared.const_expr.ConstExpr.{ConstExpr}
use Rattle.walrus_base.specs.declared.const_expr.ConstExpr.TheVariants.{Value, Global, RefNull, RefFunc, Extended}

-- whether an operator that stands alone is a case of its own
abbrev pub is_simple : ConstOp → Bool
is_simple (ops.GlobalGet id) = true
is_simple (ops.I32Const n) = true
is_simple (ops.I64Const n) = true
is_simple (ops.F32Const bits) = true
is_simple (ops.F64Const bits) = true
is_simple (ops.V128Const bytes) = true
is_simple (ops.RefNull heap) = true
is_simple (ops.RefFunc id) = true
is_simple op = false

abbrev pub is_extended : List ConstOp → Bool
is_extended (op ∷ []) = not (is_simple op)
is_extended operators = true

-- a simple operator that stands alone is a case of its own, and a null is one of a type that has it
abbrev pub is_short : ConstExpr → Bool
is_short (Value v) = true
is_short (Global id) = true
is_short (RefNull ty) = ty.nullable
is_short (RefFunc id) = true
is_short (Extended operators) = is_extended operators.items
