-- What a writer has written.
use Rattle.std.specs.Prelude.{ℕ, ◌+◌, ◌-◌, ◌<◌, ◌≤◌, List, [], ◌∷◌, length, Result, Ok, Err, vec_capacity}
use Rattle.wasm_forms.specs.declared.error.WireError.{WireError}
use Rattle.wasm_forms.specs.declared.error.WireError.TheVariants.{Malformed, Memory, TooLarge}
use Rattle.wasm_writer.specs.declared.writer.Writer.{Writer}

-- the bytes written so far
abbrev pub written : Writer → List ℕ
written w = w.bytes.items

-- these bytes, or none where the list is empty
abbrev pub unless_empty : {X : Type 0} → List X → List ℕ → List ℕ
unless_empty [] bytes = []
unless_empty (x ∷ xs) bytes = bytes

-- how many bytes can be appended before memory is taken
abbrev pub room : Writer → ℕ
room w = vec_capacity w.bytes - length (written w)

-- memory runs out only where more is to be appended than there was room for, no more room is used up than what is appended, and none
-- where that is too large
abbrev pub UsesRoom : {X : Type 0} → Result X WireError → Writer → Writer → List ℕ → Type 0
UsesRoom (Ok x) old new appended = room old ≤ room new + length appended
UsesRoom (Err Malformed) old new appended = Unit {0}
UsesRoom (Err (Memory e)) old new appended = room old < length appended
UsesRoom (Err TooLarge) old new appended = room old ≤ room new
