-- Operators over indices without where they lie in memory ("Structure > Instructions").
use Rattle.std.specs.Prelude.{ℕ, List, [], ◌∷◌}
use Rattle.wasm_operators.specs.declared.operator.RawArg.{RawArg}
use Rattle.wasm_operators.specs.declared.operator.RawArgs.{RawArgs}
use Rattle.wasm_operators.specs.declared.operator.RawArgs.TheVariants.{None as NoArgument, One, Several}
use Rattle.wasm_operators.specs.declared.operator.RawOperator.{RawOperator}

-- an operator: its byte, or its prefix byte times 65,536 and its number, and its arguments; a list among these is its count and
-- then its entries
pub record Op : Type 0 where
  pub op : ℕ
  pub args : List RawArg

abbrev pub args_of : RawArgs → List RawArg
args_of NoArgument = []
args_of (One arg) = arg ∷ []
args_of (Several args) = args.items

abbrev pub op_of : RawOperator → Op
op_of operator = record { op = operator.op; args = args_of operator.args }
