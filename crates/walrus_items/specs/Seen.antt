-- What the slots of an arena hold, seen as plain values.
use Rattle.std.specs.Prelude.{ℕ, Bool, false, List, Option, Some, None, String, map, option_map, bytes_eq}
use Rattle.std.specs.String.{string_bytes}

module _ {T U : Type 0} (value : T → U) where
  -- the value or nothing at each place from 0 on
  abbrev pub seen : List (Option T) → List (Option U)
  seen slots = map (option_map value) slots

  -- places, each with a value
  abbrev pub seen_entries : List (ℕ × T) → List (ℕ × U)
  seen_entries all = map (λ e. (e.0, value e.1)) all

-- the bytes of a text, if there is one
abbrev pub text_of : {A : Type 0} → Option (String A) → Option (List ℕ)
text_of text = option_map string_bytes text

-- a name that is there and is this one
abbrev pub text_is : List ℕ → Option (List ℕ) → Bool
text_is name None = false
text_is name (Some text) = bytes_eq text name
