-- What is written for programs: strings, lists and objects in JSON.
use Rattle.std.specs.Prelude.{ℕ, zero, suc, ◌+◌, ◌-◌, ◌*◌, ◌/◌, ◌%◌, List, [], ◌∷◌, ◌++◌, ◌||◌, codes, flat_map, get_or, nat_eq, take, if◌then◌else◌}
use Rattle.mulkavesh.specs.Visible.{hidden_length}

-- ---- strings

-- the last hexadecimal digit of a number
abbrev pub digit : ℕ → ℕ
digit number = get_or (codes "0123456789abcdef") (number % 16) 0

-- the number of four hexadecimal digits, behind what says that it is one
abbrev pub escape : ℕ → List ℕ
escape number = codes "\\u" ++ digit (number / 4096) ∷ digit (number / 256) ∷ digit (number / 16) ∷ digit number ∷ []

-- the number of a character that people don't see, of its bytes
abbrev pub code_of : List ℕ → ℕ
code_of (byte ∷ []) = byte
code_of (first ∷ byte ∷ []) = byte
code_of (first ∷ middle ∷ last ∷ []) = 8192 + middle % 64 * 64 + last % 64
code_of _ = 0

-- a byte of a string: behind a backslash where it is a quotation mark or a backslash, and else as it is
abbrev pub byte_json : ℕ → List ℕ
byte_json byte = if nat_eq byte 34 || nat_eq byte 92 then 92 ∷ byte ∷ [] else byte ∷ []

-- so many bytes in front are left out; from there on a character that people don't see is its number, and any other byte as above
abbrev pub escaped_behind : ℕ → List ℕ → List ℕ
escaped_behind left_out [] = []
escaped_behind (suc left_out) (byte ∷ rest) = escaped_behind left_out rest
escaped_behind zero (byte ∷ rest) =
    if nat_eq (hidden_length (byte ∷ rest)) 0 then byte_json byte ++ escaped_behind 0 rest
    else escape (code_of (take (hidden_length (byte ∷ rest)) (byte ∷ rest))) ++ escaped_behind (hidden_length (byte ∷ rest) - 1) rest

-- what stands between the quotation marks
abbrev pub escaped : List ℕ → List ℕ
escaped text = escaped_behind 0 text

abbrev pub string_json : List ℕ → List ℕ
string_json text = codes "\"" ++ (escaped text ++ codes "\"")

-- ---- lists

-- these texts, with a comma between each two
abbrev pub separated : (comma : List ℕ) → List (List ℕ) → List ℕ
separated comma [] = []
separated comma (text ∷ others) = text ++ flat_map (λ (other : List ℕ). comma ++ other) others

-- the comma in front of the text at this place
abbrev pub comma_at : (comma : List ℕ) → ℕ → List ℕ
comma_at comma place = if nat_eq place 0 then [] else comma
