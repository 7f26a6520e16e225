use Rattle.std.proofs.Common.{◌≤◌, ◌^◌}
use Rattle.walrus_edit_list.proofs.PlacesInTurn.{AreFirst}
use Rattle.walrus_edit_list.proofs.ids.first_places.Given as goal

-- the places so far have their indices
abbrev pub invariant-places : goal.invariant-places
invariant-places g l = AreFirst l.numbers l.place × (l.place-end ≤ 2 ^ 32)
