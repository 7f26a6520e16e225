-- A body that traps at once ("Structure > Instructions > Control Instructions").
use Rattle.std.specs.Prelude.{List, [], ◌∷◌}
use Rattle.walrus.specs.Base.Operators.{Op}
use Rattle.walrus.specs.Ir.Instructions.{unreachable_op, end_op}

abbrev pub trap_ops : List Op
trap_ops = unreachable_op ∷ end_op ∷ []
