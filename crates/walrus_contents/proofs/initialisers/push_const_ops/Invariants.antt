use Rattle.std.proofs.Common.{◌≡◌, ◌++◌, drop, map}
use Rattle.walrus_base.specs.ConstOps.{const_op}
use Rattle.walrus_base.specs.Operators.{names_of}
use Rattle.walrus_contents.specs.Named.{items_in}
use Rattle.walrus_contents.proofs.initialisers.push_const_ops.Given as goal

-- what was put so far and what is left to put are the whole
abbrev pub invariant-loop-operator : goal.invariant-loop-operator
invariant-loop-operator l = items_in l.to ++ names_of (map const_op (drop l.operator-index l.operators)) ≡ items_in l.fn.to ++ names_of (map const_op l.operators)
