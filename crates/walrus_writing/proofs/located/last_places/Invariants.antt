use Rattle.std.proofs.Common.{◌≡◌, ◌++◌, drop, map}
use Rattle.walrus_items.specs.Transform.{location_of}
use Rattle.walrus_writing.specs.Located.{lasts}
use Rattle.walrus_writing.proofs.located.last_places.Given as goal

-- the last places so far, and those that are still to come
abbrev pub invariant-sorted : goal.invariant-sorted
invariant-sorted l = map location_of l.last.items ++ lasts (drop l.index l.sorted) ≡ lasts l.sorted
