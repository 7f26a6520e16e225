use Rattle.std.proofs.Common.{◌≡◌, ◌++◌, map, drop}
use Rattle.walrus_base.specs.Id.{place}
use Rattle.walrus_base.specs.Operators.{locals_of}
use Rattle.walrus_code.specs.Code.{ops_of}
use Rattle.walrus_module.proofs.declared.push_named.Given as goal

-- the locals so far, and those of the operators that are left
abbrev pub invariant-loop-operator : goal.invariant-loop-operator
invariant-loop-operator l =
    map place l.to.items ++ locals_of (ops_of (drop l.operator-index l.operators))
    ≡ map place l.fn.to.items ++ locals_of (ops_of l.operators)
