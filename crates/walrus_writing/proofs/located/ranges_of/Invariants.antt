use Rattle.std.proofs.Common.{◌≡◌, ◌++◌, drop, map}
use Rattle.walrus_base.specs.Id.{place}
use Rattle.walrus_items.specs.Transform.{range_of}
use Rattle.walrus_writing.proofs.located.ranges_of.Given as goal

-- the ranges so far, and those that are still to come
abbrev pub invariant-pairs : goal.invariant-pairs
invariant-pairs l = map range_of l.ranges.items ++ map (λ e. (place e.0, e.1)) (drop l.pair-index l.pairs) ≡ map (λ e. (place e.0, e.1)) l.pairs
