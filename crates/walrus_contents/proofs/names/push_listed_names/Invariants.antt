use Rattle.std.proofs.Common.{◌≡◌, ◌++◌, drop}
use Rattle.walrus_code.specs.Code.{ops_of}
use Rattle.walrus_base.specs.Operators.{names_of}
use Rattle.walrus_contents.specs.Named.{items_in}
use Rattle.walrus_contents.proofs.names.push_listed_names.Given as goal

-- what was put so far and what is left to put are the whole
abbrev pub invariant-loop-operator : goal.invariant-loop-operator
invariant-loop-operator l = items_in l.to ++ names_of (ops_of (drop l.operator-index l.operators)) ≡ items_in l.fn.to ++ names_of (ops_of l.operators)
