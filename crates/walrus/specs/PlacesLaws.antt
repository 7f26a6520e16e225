-- The laws of sections of places: their state says all of them.
use Rattle.std.specs.Prelude.{ℕ, zero, suc, List, [], ◌∷◌, ◌++◌, map, Option, Some, None, ◌≡◌}
use Rattle.walrus_code.specs.Transform.{Transform}
use Rattle.walrus.specs.Places.{last_place, moved_by, new_place, pairs_state, raised, written_at, written_pairs}
use Rattle.walrus.specs.declared.sections.places.PlacedPair.{PlacedPair}

-- the new place that stands one higher, or none
abbrev pub lowered : ℕ → Option ℕ
lowered zero = None
lowered (suc place) = Some place

-- what a state of pairs, three numbers each, is written as
abbrev pub state_bytes : List ℕ → List ℕ
state_bytes (place ∷ value ∷ now ∷ rest) = written_at (lowered now) value ++ state_bytes rest
state_bytes _ = []

-- and what a code transform makes of it
abbrev pub state_moved : Transform → List ℕ → List ℕ
state_moved x (place ∷ value ∷ now ∷ rest) = place ∷ value ∷ raised (new_place x place) ∷ state_moved x rest
state_moved x _ = []

abbrev pub WritesByState : Type 0
WritesByState = (pairs : List PlacedPair) → written_pairs pairs ≡ state_bytes (pairs_state pairs)

abbrev pub BecomesByState : Type 0
BecomesByState = (x : Transform) (pairs : List PlacedPair) → pairs_state (map (moved_by (last_place x.instruction_map)) pairs) ≡ state_moved x (pairs_state pairs)
