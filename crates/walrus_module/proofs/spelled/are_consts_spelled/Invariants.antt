use Rattle.std.specs.Prelude.{◌≡◌, drop}
use Rattle.std.specs.List.{list_all}
use Rattle.walrus_module.specs.Tested.{const_is_spelled}
use Rattle.walrus_module.proofs.spelled.are_consts_spelled.Given as goal

-- bytes spell each so far: whether they spell all shows in those that are still to come
abbrev pub invariant-loop-expr : goal.invariant-loop-expr
invariant-loop-expr l = list_all const_is_spelled l.all ≡ list_all const_is_spelled (drop l.expr-index l.all)
