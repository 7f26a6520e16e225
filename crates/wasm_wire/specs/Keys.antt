-- Keys of names: a number that goes by the name alone, in front of the place that the name has.
use Rattle.std.specs.Prelude.{◌≡◌, ◌≢◌, ℕ, ◌+◌, ◌*◌, ◌/◌, ◌%◌, ◌^◌, ◌<◌, List, [], ◌∷◌, length, AllPairs, slice_index_or, bit_xor}
use Rattle.std.specs.List.{fold}

-- one byte more in the number (FNV-1a)
unfoldable pub mixed : ℕ → ℕ → ℕ
mixed number byte = (bit_xor number byte * 16_777_619) % 2 ^ 32

-- the number of a name
abbrev pub number_of : List ℕ → ℕ
number_of name = fold mixed 2_166_136_261 name

abbrev pub key_of : List ℕ → ℕ → ℕ
key_of name place = number_of name * 2 ^ 32 + place

-- the keys of names whose places begin here
abbrev pub keys_from : ℕ → List (List ℕ) → List ℕ
keys_from place [] = []
keys_from place (name ∷ names) = key_of name place ∷ keys_from (place + 1) names

-- the name that a key leads to
abbrev pub name_at : List (List ℕ) → ℕ → List ℕ
name_at names key = slice_index_or names (key % 2 ^ 32) []

-- the key leads to one of the names, and has its number
pub record IsKeyIn (names : List (List ℕ)) (key : ℕ) : Type 0 where
  pub place : key % 2 ^ 32 < length names
  pub number : number_of (name_at names key) ≡ key / 2 ^ 32

abbrev pub AllDiffer : List (List ℕ) → Type 0
AllDiffer names = AllPairs (λ a b. a ≢ b) names
