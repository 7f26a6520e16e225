use Rattle.std.specs.Prelude.{◌≡◌}
use Rattle.std.specs.List.{list_all}
use Rattle.walrus_base.specs.Arena.{items}
use Rattle.walrus_items.specs.Functions.{functions, functions_left}
use Rattle.walrus_module.specs.Tested.{function_is_typed}
use Rattle.walrus_module.proofs.typed.are_functions_typed.Given as goal

-- each so far has a function type: whether all have shows in those that are still to come
abbrev pub invariant-loop-function : goal.invariant-loop-function
invariant-loop-function l =
    goal.iterator-loop-function.can_next l.function-iterator
    × goal.iterator-loop-function.is_finite l.function-iterator
    × (list_all (function_is_typed l.types) (items (functions l.funcs)) ≡ list_all (function_is_typed l.types) (functions_left l.function-iterator))
