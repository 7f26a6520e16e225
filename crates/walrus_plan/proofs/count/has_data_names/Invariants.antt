use Rattle.std.specs.Prelude.{◌≡◌}
use Rattle.std.specs.List.{list_any}
use Rattle.walrus_base.specs.Arena.{items}
use Rattle.walrus_items.specs.Functions.{functions, functions_left}
use Rattle.walrus_plan.specs.Count.{one_names_data}
use Rattle.walrus_plan.proofs.count.has_data_names.Given as goal

-- no body so far names a segment: whether one does shows in those that are still to come
abbrev pub invariant-loop-function : goal.invariant-loop-function
invariant-loop-function l =
    goal.iterator-loop-function.can_next l.function-iterator
    × goal.iterator-loop-function.is_finite l.function-iterator
    × (list_any one_names_data (items (functions l.funcs)) ≡ list_any one_names_data (functions_left l.function-iterator))
