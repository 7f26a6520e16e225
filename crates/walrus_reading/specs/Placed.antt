-- What stands place by place, what is added behind the others, and what changes from one to the next.
use Rattle.std.specs.Prelude.{ℕ, ◌+◌, List, [], ◌∷◌, ◌++◌, length, ◌≡◌}

-- what is listed stands at the places from this one on, in order
abbrev pub AllPlaced : {A B : Type 0} → (ℕ → A → B → Type 0) → ℕ → List A → List B → Type 0
AllPlaced R place [] [] = Unit {0}
AllPlaced R place [] (y ∷ ys) = ⊥
AllPlaced R place (x ∷ xs) [] = ⊥
AllPlaced R place (x ∷ xs) (y ∷ ys) = R place x y × AllPlaced R (place + 1) xs ys

-- what is listed stands behind the others, in order
abbrev pub AddsPlaced : {A B : Type 0} → (ℕ → A → B → Type 0) → List A → (old new : List B) → Type 0
AddsPlaced {A} {B} R xs old new = (more : List B) × ((new ≡ old ++ more) × AllPlaced R (length old) xs more)

-- one after another, each with what stands at its place, they lead from the old state to the new one
abbrev pub InTurn : {A B S : Type 0} → (A → B → S → S → Type 0) → List A → List B → (old new : S) → Type 0
InTurn {A} {B} {S} R [] [] old new = new ≡ old
InTurn {A} {B} {S} R [] (y ∷ ys) old new = ⊥
InTurn {A} {B} {S} R (x ∷ xs) [] old new = ⊥
InTurn {A} {B} {S} R (x ∷ xs) (y ∷ ys) old new = (middle : S) × (R x y old middle × InTurn R xs ys middle new)
