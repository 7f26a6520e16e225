use Rattle.std.proofs.Common.{◌≡◌, ◌++◌, map}
use Rattle.walrus_base.specs.Arena.{items}
use Rattle.walrus_base.specs.Id.{place}
use Rattle.walrus_items.specs.Functions.{functions, functions_left}
use Rattle.walrus_contents.specs.References.{function_refs}
use Rattle.walrus_contents.proofs.references.push_function_refs.Given as goal

-- what was put so far and what is left to put are the whole
abbrev pub invariant-loop-function : goal.invariant-loop-function
invariant-loop-function l =
    (goal.iterator-loop-function).can_next l.function-iterator
    × (goal.iterator-loop-function).is_finite l.function-iterator
    × (map place l.to.items ++ function_refs (functions_left l.function-iterator) ≡ map place l.fn.to.items ++ function_refs (items (functions l.funcs)))
