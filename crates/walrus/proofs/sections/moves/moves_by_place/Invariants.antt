use Rattle.std.proofs.Common.{◌≡◌, ℕ, nat_eq, map, take}
use Rattle.std.specs.HashMap.{get}
use Rattle.walrus_items.specs.Transform.{location_of}
use Rattle.walrus.specs.Places.{last_place}
use Rattle.walrus.proofs.sections.moves.moves_by_place.Given as goal

-- the moves so far are in the map
abbrev pub invariant-moves : goal.invariant-moves
invariant-moves l = (old : ℕ) → get nat_eq l.places old ≡ last_place (map location_of (take l.entry-index l.moves)) old
