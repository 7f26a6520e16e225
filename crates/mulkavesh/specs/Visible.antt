-- What people see of a name or a path, by the bytes of its UTF-8: a character that moves a terminal's cursor, or turns the order of what it shows,
-- is one question mark, and all else is as it is.
use Rattle.std.specs.Prelude.{ℕ, zero, suc, ◌-◌, Bool, List, [], ◌∷◌, ◌&&◌, ◌||◌, nat_eq, nat_le, nat_lt, if◌then◌else◌}

-- a control character of ASCII: U+0000 to 001F, or U+007F
abbrev pub is_control : ℕ → Bool
is_control byte = nat_lt byte 32 || nat_eq byte 127

-- it is one of these, both ends among them
abbrev pub is_within : (low high byte : ℕ) → Bool
is_within low high byte = nat_le low byte && nat_le byte high

-- a later control character, U+0080 to 009F: C2, and 80 to 9F
abbrev pub is_late_control : (first second : ℕ) → Bool
is_late_control first second = nat_eq first 194 && is_within 128 159 second

-- a character that ends a line or turns the order, U+2028 to 202E or U+2066 to 2069: E2 80, and A8 to AE; or E2 81, and A6 to A9
abbrev pub is_turn : (first second third : ℕ) → Bool
is_turn first second third = nat_eq first 226 && ((nat_eq second 128 && is_within 168 174 third) || (nat_eq second 129 && is_within 166 169 third))

-- how many bytes the character has that stands in front, where it is one of these; and else 0
abbrev pub hidden_length : List ℕ → ℕ
hidden_length [] = 0
hidden_length (a ∷ []) = if is_control a then 1 else 0
hidden_length (a ∷ b ∷ []) = if is_control a then 1 else (if is_late_control a b then 2 else 0)
hidden_length (a ∷ b ∷ c ∷ rest) = if is_control a then 1 else (if is_late_control a b then 2 else (if is_turn a b c then 3 else 0))

-- so many bytes in front are left out; from there on one of these characters is a question mark, and any other byte as it is
abbrev pub shown_behind : ℕ → List ℕ → List ℕ
shown_behind left_out [] = []
shown_behind (suc left_out) (byte ∷ rest) = shown_behind left_out rest
shown_behind zero (byte ∷ rest) = if nat_eq (hidden_length (byte ∷ rest)) 0 then byte ∷ shown_behind 0 rest else 63 ∷ shown_behind (hidden_length (byte ∷ rest) - 1) rest

-- what people see of a text
abbrev pub shown : List ℕ → List ℕ
shown text = shown_behind 0 text
