use Rattle.walrus_base.specs.Arena.{items}
use Rattle.walrus_code.specs.Indices.{index_of}
use Rattle.walrus_items.specs.Globals.{globals, globals_left}
use Rattle.walrus_writing.proofs.ItemsLeft.{GlobalsWritten}
use Rattle.walrus_writing.proofs.globals.raw_globals.Given as goal

-- the records so far, and the globals that are still to come
abbrev pub invariant-loop-global : goal.invariant-loop-global
invariant-loop-global l =
    goal.iterator-loop-global.can_next l.global-iterator
    × goal.iterator-loop-global.is_finite l.global-iterator
    × GlobalsWritten (index_of l.indices) (items (globals l.all)) l.raw.items (globals_left l.global-iterator)
