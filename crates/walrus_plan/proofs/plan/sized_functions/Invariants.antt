use Rattle.std.proofs.Common.{◌≡◌, ◌++◌, map}
use Rattle.walrus_base.specs.Id.{place}
use Rattle.walrus_items.specs.Function.{size_of}
use Rattle.walrus_items.specs.Functions.{functions, locals_left}
use Rattle.walrus_plan.specs.Sizes.{local_sizes}
use Rattle.walrus_plan.proofs.plan.sized_functions.Given as goal

-- the sizes so far, and those of the functions that are still to come
abbrev pub invariant-loop-id : goal.invariant-loop-id
invariant-loop-id l =
    goal.iterator-loop-id.can_next l.id-iterator
    × goal.iterator-loop-id.is_finite l.id-iterator
    × (map (λ s. (s.0.0, place s.1)) l.sized.items ++ map (λ e. (size_of e.1, e.0)) (locals_left l.id-iterator) ≡ local_sizes (functions l.funcs))
