use Rattle.std.proofs.Common.{◌≡◌, take}
use Rattle.walrus.specs.Places.{pairs_of, places_name}
use Rattle.walrus_examples.specs.PlacesSection.{given}
use Rattle.walrus_examples.proofs.examples.with_places.places_section.Given as goal

-- the pairs so far, under the name
abbrev pub invariant-pairs : goal.invariant-pairs
invariant-pairs l = record {
  name : places_name l.section ≡ l.name;
  pairs : pairs_of l.section ≡ given (take l.place-index l.pairs);
}
