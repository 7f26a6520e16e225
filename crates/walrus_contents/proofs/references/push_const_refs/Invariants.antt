use Rattle.std.proofs.Common.{◌≡◌, ◌++◌, drop, map}
use Rattle.std.specs.Prelude.{filter_map}
use Rattle.walrus_base.specs.Id.{place}
use Rattle.walrus_base.specs.ConstOps.{const_op}
use Rattle.walrus_contents.specs.References.{op_ref}
use Rattle.walrus_contents.proofs.references.push_const_refs.Given as goal

-- what was put so far and what is left to put are the whole
abbrev pub invariant-loop-operator : goal.invariant-loop-operator
invariant-loop-operator l = map place l.to.items ++ filter_map op_ref (map const_op (drop l.operator-index l.operators)) ≡ map place l.fn.to.items ++ filter_map op_ref (map const_op l.operators)
