use Rattle.std.proofs.Common.{◌≡◌, ◌++◌, drop, map}
use Rattle.std.specs.Prelude.{filter_map}
use Rattle.walrus_base.specs.Id.{place}
use Rattle.walrus_base.specs.ConstOps.{const_ops}
use Rattle.walrus_contents.specs.References.{only_ref}
use Rattle.walrus_contents.proofs.references.push_only_refs.Given as goal

-- what was put so far and what is left to put are the whole
abbrev pub invariant-loop-expression : goal.invariant-loop-expression
invariant-loop-expression l = map place l.to.items ++ filter_map only_ref (map const_ops (drop l.expression-index l.expressions)) ≡ map place l.fn.to.items ++ filter_map only_ref (map const_ops l.expressions)
