use Rattle.std.proofs.Common.{◌≡◌, drop}
use Rattle.walrus_code.specs.Code.{ops_of}
use Rattle.walrus_bodies.specs.Blocks.{blocks_hold}
use Rattle.walrus_bodies.proofs.types.blocks_hold.Given as goal

-- the operators that are left decide
abbrev pub invariant-loop-operator : goal.invariant-loop-operator
invariant-loop-operator g l = blocks_hold (g.T.FunctionTypes.function_types l.types) (ops_of l.operators) ≡ blocks_hold (g.T.FunctionTypes.function_types l.types) (ops_of (drop l.operator-index l.operators))
