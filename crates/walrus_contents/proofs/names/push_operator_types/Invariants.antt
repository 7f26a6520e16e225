use Rattle.std.proofs.Common.{flat_map, map, take}
use Rattle.walrus_code.specs.Code.{arg_of}
use Rattle.walrus_base.specs.Operators.{arg_locals}
use Rattle.walrus_contents.specs.Named.{PutsTypes}
use Rattle.walrus_contents.proofs.names.push_operator_types.Given as goal

-- so far the types of the locals of those before were put
abbrev pub invariant-loop-arg : goal.invariant-loop-arg
invariant-loop-arg l = PutsTypes l.locals (flat_map arg_locals (map arg_of (take l.arg-index l.args))) l.fn.to l.to
