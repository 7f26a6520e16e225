use Rattle.std.proofs.Common.{◌≡◌, ◌++◌, map}
use Rattle.walrus_base.specs.Arena.{entries_left, live_places}
use Rattle.walrus_base.specs.Id.{place}
use Rattle.walrus_base.proofs.arena.live_ids.Given as goal

-- the places so far, and those that are still to come
abbrev pub invariant-loop-id : goal.invariant-loop-id
invariant-loop-id g l =
    (goal.iterator-loop-id g).can_next l.id-iterator
    × (goal.iterator-loop-id g).is_finite l.id-iterator
    × (map place l.ids.items ++ map (λ e. e.0) (entries_left l.id-iterator) ≡ live_places l.places)
