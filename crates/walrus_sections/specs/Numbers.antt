-- Numbers and names as bytes, for callers of other languages.
use Rattle.std.specs.Prelude.{ℕ, ◌-◌, ◌^◌, ◌≤◌, List, [], ◌∷◌, ◌++◌, length, ⊤}
use Rattle.wasm_forms.specs.Spelling.{little_bytes}
use Rattle.walrus_items.specs.declared.error.Error.{Error}
use Rattle.walrus_items.specs.declared.error.Error.TheVariants.{Memory, TooLarge}

-- 2^32 - 1 stands for the length of no name
abbrev pub no_name : ℕ
no_name = 2 ^ 32 - 1

-- a number in four bytes, the lowest first
abbrev pub number_bytes : ℕ → List ℕ
number_bytes n = little_bytes 4 n

-- the length of the first of these names, and the name
abbrev pub name_bytes : List (List ℕ) → List ℕ
name_bytes [] = number_bytes no_name
name_bytes (name ∷ others) = number_bytes (length name) ++ name

-- the name is too long for its length to stand in four bytes and to be none that stands for no name
abbrev pub IsLongName : List (List ℕ) → Type 0
IsLongName [] = ⊥
IsLongName (name ∷ others) = no_name ≤ length name

-- memory ran out, or this is so
abbrev pub RefusesIf : Type 0 → Error → Type 0
RefusesIf Cause (Memory e) = ⊤
RefusesIf Cause TooLarge = Cause
RefusesIf Cause _ = ⊥
