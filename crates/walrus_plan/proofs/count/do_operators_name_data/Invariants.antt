use Rattle.std.specs.Prelude.{◌≡◌, drop, map}
use Rattle.std.specs.List.{list_any}
use Rattle.walrus_code.specs.Code.{op_of}
use Rattle.walrus_plan.specs.Count.{op_names_data}
use Rattle.walrus_plan.proofs.count.do_operators_name_data.Given as goal

-- none so far names a segment: whether one does shows in those that are still to come
abbrev pub invariant-loop-operator : goal.invariant-loop-operator
invariant-loop-operator l = list_any op_names_data (map op_of l.operators) ≡ list_any op_names_data (map op_of (drop l.operator-index l.operators))
