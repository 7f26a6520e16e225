use Rattle.std.proofs.Common.{◌≡◌, drop}
use Rattle.walrus_code.specs.Code.{ops_of}
use Rattle.walrus_bodies.specs.Features.{are_allowed}
use Rattle.walrus_bodies.proofs.emit.are_allowed.Given as goal

-- the operators that are left decide
abbrev pub invariant-loop-operator : goal.invariant-loop-operator
invariant-loop-operator l = are_allowed l.features (ops_of l.operators) ≡ are_allowed l.features (ops_of (drop l.operator-index l.operators))
