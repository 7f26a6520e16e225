-- The one spelling of each value that is written: the shortest.
use Rattle.std.specs.Prelude.{ℕ, zero, suc, ◌+◌, ◌-◌, ◌/◌, ◌%◌, List, [], ◌∷◌, ◌++◌, length, Bool, true, false, nat_lt, if◌then◌else◌, ℤ, pos, negsuc}

-- seven bits, and of a number below zero what they lack to 127
abbrev pub shown : Bool → ℕ → ℕ
shown false n = n
shown true n = 127 - n

-- n (or - n - 1) by its groups, of which at most this many have more behind them; the last one is below stop
unfoldable pub groups : Bool → ℕ → ℕ → ℕ → List ℕ
groups below stop zero n = shown below n ∷ []
groups below stop (suc most) n = if nat_lt n stop then shown below n ∷ [] else (128 + shown below (n % 128)) ∷ groups below stop most (n / 128)

-- the shortest spelling of a number below 2 ^ 64 (Binary Format > Values > Integers, uN)
unfoldable pub number_bytes : ℕ → List ℕ
number_bytes n = groups false 128 9 n

-- the shortest spelling of a number from - 2 ^ 63 to 2 ^ 63 - 1 (Binary Format > Values > Integers, sN)
unfoldable pub integer_bytes : ℤ → List ℕ
integer_bytes (pos n) = groups false 64 9 n
integer_bytes (negsuc n) = groups true 64 9 n

-- the shortest spelling of an index as an s33 that is not negative (Binary Format > Types > Heap Types)
abbrev pub index_bytes : ℕ → List ℕ
index_bytes n = integer_bytes (pos n)

-- so many bytes of a number, the lowest first
abbrev pub little_bytes : ℕ → ℕ → List ℕ
little_bytes zero n = []
little_bytes (suc count) n = (n % 256) ∷ little_bytes count (n / 256)

-- the bits of a float in four bytes, the lowest first (Binary Format > Values > Floating-Point)
abbrev pub f32_bytes : ℕ → List ℕ
f32_bytes bits = little_bytes 4 bits

-- the bits of a double-precision float in eight bytes, the lowest first (Binary Format > Values > Floating-Point)
abbrev pub f64_bytes : ℕ → List ℕ
f64_bytes bits = little_bytes 8 bits

-- a count of bytes, and these (Binary Format > Conventions > Lists)
abbrev pub block_bytes : List ℕ → List ℕ
block_bytes content = number_bytes (length content) ++ content

-- a name is spelled as the block of its UTF-8 (Binary Format > Values > Names)
abbrev pub name_bytes : List ℕ → List ℕ
name_bytes text = block_bytes text

-- the spellings one after another
abbrev pub row_bytes : {X : Type 0} → (X → List ℕ) → List X → List ℕ
row_bytes spell [] = []
row_bytes spell (x ∷ xs) = spell x ++ row_bytes spell xs

-- a count, and that many spellings (Binary Format > Conventions > Lists)
abbrev pub vector_bytes : {X : Type 0} → (X → List ℕ) → List X → List ℕ
vector_bytes spell xs = number_bytes (length xs) ++ row_bytes spell xs
