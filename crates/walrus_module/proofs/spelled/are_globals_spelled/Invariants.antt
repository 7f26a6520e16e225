use Rattle.std.specs.Prelude.{◌≡◌}
use Rattle.std.specs.List.{list_all}
use Rattle.walrus_base.specs.Arena.{items}
use Rattle.walrus_items.specs.Globals.{globals, globals_left}
use Rattle.walrus_module.specs.Tested.{global_is_spelled}
use Rattle.walrus_module.proofs.spelled.are_globals_spelled.Given as goal

-- bytes spell each so far: whether they spell all shows in those that are still to come
abbrev pub invariant-loop-global : goal.invariant-loop-global
invariant-loop-global l =
    goal.iterator-loop-global.can_next l.global-iterator
    × goal.iterator-loop-global.is_finite l.global-iterator
    × (list_all global_is_spelled (items (globals l.all)) ≡ list_all global_is_spelled (globals_left l.global-iterator))
