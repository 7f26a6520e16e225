use Rattle.std.proofs.Common.{◌≡◌, nat_eq, map, take}
use Rattle.std.specs.HashMap.{get}
use Rattle.walrus.specs.Places.{moved_by}
use Rattle.walrus.proofs.sections.places.all_moved.Given as goal

-- the pairs so far
abbrev pub invariant-pairs : goal.invariant-pairs
invariant-pairs l = l.all.items ≡ map (moved_by (get nat_eq l.new)) (take l.pair-index l.pairs)
