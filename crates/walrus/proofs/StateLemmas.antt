-- What a section of places writes and becomes, from its state.
use Rattle.std.proofs.Common.{◌≡◌, ℕ, List, [], ◌∷◌, ◌++◌, None, Some, refl, ap, ap₂}
use Rattle.std.specs.Prelude.{Option}
use Rattle.walrus.specs.PlacesLaws.{BecomesByState, WritesByState, lowered}
use Rattle.walrus.specs.Places.{new_place, raised, written_at}

back : (now : Option ℕ) → now ≡ lowered (raised now)
back None = refl
back (Some place) = refl

pub writes_by_state : WritesByState
writes_by_state [] = refl
writes_by_state (pair ∷ pairs) = ap₂ (λ (now : Option ℕ) (rest : List ℕ). written_at now pair.value ++ rest) (back pair.now) (writes_by_state pairs)

pub becomes_by_state : BecomesByState
becomes_by_state x [] = refl
becomes_by_state x (pair ∷ pairs) = ap (λ (rest : List ℕ). pair.place ∷ pair.value ∷ raised (new_place x pair.place) ∷ rest) (becomes_by_state x pairs)
