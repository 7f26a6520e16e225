use Rattle.std.proofs.Common.{◌≡◌, map, take}
use Rattle.walrus.specs.Items.Transform.{location_of}
use Rattle.walrus_examples.proofs.examples.moves.places_of.Given as goal

-- the places so far are those of the entries so far
abbrev pub invariant-entries : goal.invariant-entries
invariant-entries l = l.places.items ≡ map location_of (take l.entry-index l.entries)
