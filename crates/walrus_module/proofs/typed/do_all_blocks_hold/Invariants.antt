use Rattle.std.specs.Prelude.{◌≡◌}
use Rattle.std.specs.List.{list_all}
use Rattle.walrus_base.specs.Arena.{items}
use Rattle.walrus_items.specs.Functions.{functions, functions_left}
use Rattle.walrus_module.specs.Tested.{function_blocks_hold}
use Rattle.walrus_module.proofs.typed.do_all_blocks_hold.Given as goal

-- the blocks of each so far hold: whether all do shows in those that are still to come
abbrev pub invariant-loop-function : goal.invariant-loop-function
invariant-loop-function l =
    goal.iterator-loop-function.can_next l.function-iterator
    × goal.iterator-loop-function.is_finite l.function-iterator
    × (list_all (function_blocks_hold l.types) (items (functions l.funcs)) ≡ list_all (function_blocks_hold l.types) (functions_left l.function-iterator))
