-- Reading from left to right: the value that stands in front, and the bytes after it.
use Rattle.std.specs.Prelude.{◌≡◌, ℕ, List, [], ◌∷◌, Option, Some, None, Result, Ok, Err}
use Rattle.wasm_forms.specs.declared.error.WireError.{WireError}
use Rattle.wasm_forms.specs.declared.error.WireError.TheVariants.{Malformed, Memory, TooLarge}

infixl 10 ◌>>=◌
-- one step after another, where each may find nothing
abbrev pub ◌>>=◌ : {A B : Type 0} → Option A → (A → Option B) → Option B
(Some x) >>= f = f x
None >>= f = None

-- what a refusal says of what stands there: a reader refuses malformed bytes and a lack of memory, and nothing as too large
abbrev pub Refuses : {Y : Type 0} → WireError → Option Y → Type 0
Refuses Malformed read = read ≡ None
Refuses (Memory e) read = Unit {0}
Refuses TooLarge read = ⊥

-- what a reader returned, seen by view, is what stands there, unless memory ran out
abbrev pub Gives : {X Y : Type 0} → (X → Y) → Result X WireError → Option Y → Type 0
Gives view (Ok x) read = read ≡ Some (view x)
Gives view (Err e) read = Refuses e read

-- Binary Format > Values > Bytes
abbrev pub byte_at : List ℕ → Option (ℕ × List ℕ)
byte_at [] = None
byte_at (b ∷ rest) = Some (b, rest)
