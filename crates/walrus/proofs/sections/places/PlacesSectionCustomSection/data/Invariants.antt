use Rattle.std.proofs.Common.{◌≡◌, take}
use Rattle.walrus.specs.Places.{written_pairs}
use Rattle.walrus.proofs.sections.places.PlacesSectionCustomSection.data.Given as goal

-- the bytes of the pairs so far
abbrev pub invariant-pairs : goal.invariant-pairs
invariant-pairs l = l.bytes.items ≡ written_pairs (take l.pair-index l.self.pairs.items)
