use Rattle.std.proofs.Common.{◌≡◌, ◌++◌, drop, flat_map, map}
use Rattle.walrus_base.specs.ConstOps.{const_ops}
use Rattle.walrus_base.specs.Operators.{names_of}
use Rattle.walrus_contents.specs.Named.{items_in}
use Rattle.walrus_contents.proofs.initialisers.push_all_consts.Given as goal

-- what was put so far and what is left to put are the whole
abbrev pub invariant-loop-expr : goal.invariant-loop-expr
invariant-loop-expr l = items_in l.to ++ flat_map names_of (map const_ops (drop l.expr-index l.all)) ≡ items_in l.fn.to ++ flat_map names_of (map const_ops l.all)
