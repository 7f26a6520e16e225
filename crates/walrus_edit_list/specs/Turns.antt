-- Steps that are made one behind the other, each on what the one before left.
use Rattle.std.specs.Prelude.{List, [], ◌∷◌, ◌≡◌, ◌⊎◌}

module _ {A S : Type 0} (Makes : A → (old new : S) → Type 0) where
  -- each of these was made, in its turn
  abbrev pub InTurn : List A → (old new : S) → Type 0
  InTurn [] old new = new ≡ old
  InTurn (x ∷ xs) old new = (middle : S) × Makes x old middle × InTurn xs middle new

  -- some of these were made, and the next one is refused on what they left
  abbrev pub RefusesOne : {E : Type 0} → (A → S → E → Type 0) → List A → S → E → Type 0
  RefusesOne Refuses [] old e = ⊥
  RefusesOne Refuses (x ∷ xs) old e = Refuses x old e ⊎ ((middle : S) × Makes x old middle × RefusesOne Refuses xs middle e)
