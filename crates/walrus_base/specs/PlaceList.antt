-- Lists of places.
use Rattle.std.specs.Prelude.{◌≡◌, ℕ, ◌==◌, ◌&&◌, Bool, List, [], ◌∷◌, ◌++◌, ◌⊎◌, leb}
use Rattle.std.specs.List.{list_any}

-- whether the place is in the list
abbrev pub has : List ℕ → ℕ → Bool
has places p = list_any (λ q. q == p) places

-- the places rise, and lie between these two numbers
abbrev pub rise : (low : ℕ) → List ℕ → (high : ℕ) → Bool
rise low [] high = leb low high
rise low (p ∷ ps) high = leb low p && rise p ps high

-- the list is as it was, or, where `Cause`, this place stands behind
abbrev pub MayEndIn : (Cause : Type 0) → (old : List ℕ) → ℕ → (new : List ℕ) → Type 0
MayEndIn Cause old p new = (new ≡ old) ⊎ (Cause × (new ≡ old ++ p ∷ []))
