-- Which items the module defines.
use Rattle.std.specs.Prelude.{ℕ, Bool, true, false, Option, Some, None}

-- no import brings the item
abbrev pub is_own : Option ℕ → Bool
is_own None = true
is_own (Some i) = false
