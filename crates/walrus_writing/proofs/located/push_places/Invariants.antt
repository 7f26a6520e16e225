use Rattle.std.proofs.Common.{◌≡◌, ◌++◌, drop, map}
use Rattle.walrus_items.specs.Transform.{location_of}
use Rattle.walrus_writing.specs.Located.{placed_from}
use Rattle.walrus_writing.proofs.located.push_places.Given as goal

-- the locations so far, and those that are still to come
abbrev pub invariant-places : goal.invariant-places
invariant-places l = l.to.items ++ placed_from l.start (map location_of (drop l.offset-index l.places)) ≡ l.fn.to.items ++ placed_from l.start (map location_of l.places)
