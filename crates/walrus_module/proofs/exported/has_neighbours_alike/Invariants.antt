use Rattle.std.proofs.Common.{◌≢◌}
use Rattle.std.specs.List.{AllAdjacentBelow}
use Rattle.walrus_module.proofs.exported.has_neighbours_alike.Given as goal

-- so far no name is the next one
abbrev pub invariant-loop-index : goal.invariant-loop-index
invariant-loop-index l = AllAdjacentBelow (λ x y. x.now ≢ y.now) l.names l.index
