use Rattle.std.proofs.Common.{take}
use Rattle.walrus_code.specs.Code.{ops_of}
use Rattle.walrus_base.specs.Operators.{locals_of}
use Rattle.walrus_contents.specs.Named.{PutsTypes}
use Rattle.walrus_contents.proofs.names.push_listed_types.Given as goal

-- so far the types of the locals of those before were put
abbrev pub invariant-loop-operator : goal.invariant-loop-operator
invariant-loop-operator l = PutsTypes l.locals (locals_of (ops_of (take l.operator-index l.operators))) l.fn.to l.to
