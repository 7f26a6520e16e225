use Rattle.std.proofs.Common.{◌≡◌, ◌++◌, map}
use Rattle.walrus_base.specs.Arena.{items}
use Rattle.walrus_base.specs.Id.{place}
use Rattle.walrus_items.specs.Globals.{globals, globals_left}
use Rattle.walrus_contents.specs.References.{global_refs}
use Rattle.walrus_contents.proofs.references.push_global_refs.Given as goal

-- what was put so far and what is left to put are the whole
abbrev pub invariant-loop-global : goal.invariant-loop-global
invariant-loop-global l =
    (goal.iterator-loop-global).can_next l.global-iterator
    × (goal.iterator-loop-global).is_finite l.global-iterator
    × (map place l.to.items ++ global_refs (globals_left l.global-iterator) ≡ map place l.fn.to.items ++ global_refs (items (globals l.all_globals)))
