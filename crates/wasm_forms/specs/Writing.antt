-- What a writer did with the bytes that it was lent.
use Rattle.std.specs.Prelude.{◌≡◌, ℕ, ◌+◌, ◌<◌, ◌≤◌, ◌^◌, List, [], ◌∷◌, ◌++◌, length, take, Result, Ok, Err, Vec, vec_capacity, vec_len}
use Rattle.wasm_forms.specs.declared.error.WireError.{WireError}
use Rattle.wasm_forms.specs.declared.error.WireError.TheVariants.{Malformed, Memory, TooLarge}

-- written, the spelling stands behind what was there, and it fits; refused, the bytes stay, and only what does not fit is too large
abbrev pub Wrote : {X : Type 0} → Result X WireError → List ℕ → List ℕ → List ℕ → Type 0 → Type 0
Wrote (Ok x) old new spelled fits = (new ≡ old ++ spelled) × fits
Wrote (Err Malformed) old new spelled fits = ⊥
Wrote (Err (Memory e)) old new spelled fits = new ≡ old
Wrote (Err TooLarge) old new spelled fits = (new ≡ old) × (fits → ⊥)

-- written, the spelling stands behind what was there, and it fits; only what does not fit is too large
abbrev pub Adds : {X : Type 0} → Result X WireError → List ℕ → List ℕ → List ℕ → Type 0 → Type 0
Adds (Ok x) old new spelled fits = (new ≡ old ++ spelled) × fits
Adds (Err Malformed) old new spelled fits = ⊥
Adds (Err (Memory e)) old new spelled fits = Unit {0}
Adds (Err TooLarge) old new spelled fits = fits → ⊥

-- what was there before still stands in front
abbrev pub Keeps : List ℕ → List ℕ → Type 0
Keeps old new = take (length old) new ≡ old

-- room isn't given back where memory doesn't run out, and that only where the spelling doesn't fit into the room that was there
abbrev pub TakesRoom : {X A : Type 0} → Result X WireError → Vec ℕ A → Vec ℕ A → List ℕ → Type 0
TakesRoom (Ok x) old new spelled = vec_capacity old ≤ vec_capacity new
TakesRoom (Err Malformed) old new spelled = Unit {0}
TakesRoom (Err (Memory e)) old new spelled = vec_capacity old < vec_len old + length spelled
TakesRoom (Err TooLarge) old new spelled = vec_capacity old ≤ vec_capacity new

-- the same of a writer that can be refused for lack of memory alone
abbrev pub NeedsRoom : {X E A : Type 0} → Result X E → Vec ℕ A → Vec ℕ A → List ℕ → Type 0
NeedsRoom (Ok x) old new spelled = vec_capacity old ≤ vec_capacity new
NeedsRoom (Err e) old new spelled = vec_capacity old < vec_len old + length spelled

-- a length that a u32 holds
abbrev pub FitsLength : {X : Type 0} → List X → Type 0
FitsLength xs = length xs < 2 ^ 32

-- each item fits
abbrev pub EachFits : {X : Type 0} → (X → Type 0) → List X → Type 0
EachFits F [] = Unit {0}
EachFits F (x ∷ xs) = F x × EachFits F xs

-- a list whose length and items fit
abbrev pub FitsVector : {X : Type 0} → (X → Type 0) → List X → Type 0
FitsVector F xs = (length xs < 2 ^ 32) × EachFits F xs
