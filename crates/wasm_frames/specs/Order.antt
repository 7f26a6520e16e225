-- The order in which the sections that aren't custom stand (Binary Format > Modules).
use Rattle.std.specs.Prelude.{◌≡◌, ℕ, ◌<◌, List, [], ◌∷◌, AllPairs, Some, slice_get}

-- the ids of the sections that aren't custom, in the order in which they stand
abbrev pub standard_order : List ℕ
standard_order = 1 ∷ 2 ∷ 3 ∷ 4 ∷ 5 ∷ 13 ∷ 6 ∷ 7 ∷ 8 ∷ 9 ∷ 12 ∷ 10 ∷ 11 ∷ []

-- a section with the one id stands before one with the other: it has an earlier place in that order
pub record StandsBefore (a b : ℕ) : Type 0 where
  pub place_of_a : ℕ
  pub place_of_b : ℕ
  pub earlier : place_of_a < place_of_b
  pub a_stands : slice_get standard_order place_of_a ≡ Some a
  pub b_stands : slice_get standard_order place_of_b ≡ Some b

-- each stands before all that follow it, so that none stands twice
abbrev pub InOrder : List ℕ → Type 0
InOrder order = AllPairs StandsBefore order
