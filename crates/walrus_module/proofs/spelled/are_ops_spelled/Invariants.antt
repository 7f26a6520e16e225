use Rattle.std.specs.Prelude.{◌≡◌, drop}
use Rattle.std.specs.List.{list_all}
use Rattle.walrus_module.specs.Tested.{op_is_spelled}
use Rattle.walrus_module.proofs.spelled.are_ops_spelled.Given as goal

-- bytes spell each so far: whether they spell all shows in those that are still to come
abbrev pub invariant-loop-op : goal.invariant-loop-op
invariant-loop-op l = list_all op_is_spelled l.ops ≡ list_all op_is_spelled (drop l.op-index l.ops)
