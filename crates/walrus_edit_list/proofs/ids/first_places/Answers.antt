use Rattle.walrus_edit_list.proofs.PlacesInTurn.{at_most, begins, new_at, turn}
use Rattle.walrus_edit_list.proofs.ids.first_places.Goals as goal

pub places-init : goal.places-init
places-init g c = (begins _ c.new-numbers.ensures.given c.new-numbers.ensures.indices, at_most _ _ c.min-place-end.ensures)

pub places-preserved : goal.places-preserved
places-preserved g c = (turn _ _ _ _ c.at.ensures c.places.invariant.0 c.in_ok-push.ensures, c.places.invariant.1)

pub push-requires-clause-is_new : goal.push-requires-clause-is_new
push-requires-clause-is_new g c = new_at _ _ _ c.at.ensures c.places.invariant.0
