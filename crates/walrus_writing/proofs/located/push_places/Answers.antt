use Rattle.std.proofs.Common.{arith}
use Rattle.walrus_items.specs.Transform.{location_of}
use Rattle.walrus_writing.proofs.LocatedLoops.{ends, places_end, places_step, turn}
use Rattle.walrus_writing.proofs.located.push_places.Goals as goal

pub places-preserved : goal.places-preserved
places-preserved c = turn _ _ _ _ _ _ (places_step location_of c.args.start c.args.places.now c.places.offset-index _ c.places-test.true) c.in_ok-push_place.ensures.value c.places.invariant

pub returns-clause-value : goal.returns-clause-value
returns-clause-value c = ends _ _ _ (places_end location_of c.args.start c.args.places.now c.places.offset-index (omega (arith, c.places-test.false))) c.places.invariant
