-- Numbers in groups of seven bits, the lowest first (Binary Format > Values > Integers): a byte from 128 on says that more follow. And numbers by their bytes.
use Rattle.std.specs.Prelude.{◌≡◌, ℕ, zero, suc, ◌+◌, ◌-◌, ◌*◌, ◌^◌, ◌<◌, ◌≤◌, Bool, List, [], ◌∷◌, length, Option, Some, None, nat_lt, if◌then◌else◌, ◌⊎◌, ℤ, pos, negsuc, ◌+ℤ◌, ◌-ℤ◌, ◌*ℤ◌}
use Rattle.wasm_forms.specs.Reading.{◌>>=◌, byte_at}

-- each is a byte
abbrev pub AreBytes : List ℕ → Type 0
AreBytes [] = Unit {0}
AreBytes (b ∷ bs) = (b < 256) × AreBytes bs

-- the bytes spell n (Binary Format > Values > Integers, uN): a byte below 128 is itself, a byte from 128 on adds 128 times what follows
abbrev pub IsUnsigned : List ℕ → ℕ → Type 0
IsUnsigned [] n = ⊥
IsUnsigned (b ∷ []) n = (b < 128) × (n ≡ b)
IsUnsigned (b ∷ c ∷ bs) n = (128 ≤ b) × ((high : ℕ) × (n ≡ (b - 128) + 128 * high) × IsUnsigned (c ∷ bs) high)

-- the bytes spell z (Binary Format > Values > Integers, sN): a last byte from 64 on counts 128 less
abbrev pub IsSigned : List ℕ → ℤ → Type 0
IsSigned [] z = ⊥
IsSigned (b ∷ []) z = ((b < 64) × (z ≡ pos b)) ⊎ ((64 ≤ b) × (b < 128) × (z ≡ pos b -ℤ pos 128))
IsSigned (b ∷ c ∷ bs) z = (128 ≤ b) × ((high : ℤ) × (z ≡ pos (b - 128) +ℤ pos 128 *ℤ high) × IsSigned (c ∷ bs) high)

-- from - half to half - 1
abbrev pub Fits : ℕ → ℤ → Type 0
Fits half (pos n) = n < half
Fits half (negsuc n) = n < half

-- an unsigned number of at most this many bytes and below top, spelled in any length up to that
pub record IsNumber (most top : ℕ) (bytes : List ℕ) (n : ℕ) : Type 0 where
  pub spelled : IsUnsigned bytes n
  pub short : length bytes ≤ most
  pub small : n < top

-- a signed number of at most this many bytes, from - half to half - 1
pub record IsInteger (most half : ℕ) (bytes : List ℕ) (z : ℤ) : Type 0 where
  pub spelled : IsSigned bytes z
  pub short : length bytes ≤ most
  pub small : Fits half z

-- u32 and s32 (Binary Format > Values > Integers): at most ceil(32 / 7) bytes
abbrev pub IsU32 : List ℕ → ℕ → Type 0
IsU32 = IsNumber 5 (2 ^ 32)

abbrev pub IsS32 : List ℕ → ℤ → Type 0
IsS32 = IsInteger 5 (2 ^ 31)

-- the bytes spell an integer as an s33: at most five bytes (Binary Format > Instructions > Control Instructions, block types)
abbrev pub IsS33 : List ℕ → ℤ → Type 0
IsS33 = IsInteger 5 (2 ^ 32)

-- an index spelled as an s33 that is not negative (Binary Format > Types > Heap Types)
abbrev pub IsIndex : List ℕ → ℕ → Type 0
IsIndex bytes n = IsS33 bytes (pos n)

-- reading one of at most this many bytes
unfoldable pub leb_at : ℕ → List ℕ → Option (ℕ × List ℕ)
leb_at zero bytes = None
leb_at (suc most) bytes = byte_at bytes >>= λ b.
    if nat_lt b.0 128 then Some (b.0, b.1) else (leb_at most b.1 >>= λ high. Some ((b.0 - 128) + 128 * high.0, high.1))

-- what a last byte counts in a signed number
abbrev pub last_of : ℕ → ℤ
last_of b = if nat_lt b 64 then pos b else pos b -ℤ pos 128

unfoldable pub sleb_at : ℕ → List ℕ → Option (ℤ × List ℕ)
sleb_at zero bytes = None
sleb_at (suc most) bytes = byte_at bytes >>= λ b.
    if nat_lt b.0 128 then Some (last_of b.0, b.1) else (sleb_at most b.1 >>= λ high. Some (pos (b.0 - 128) +ℤ pos 128 *ℤ high.0, high.1))

abbrev pub fits : ℕ → ℤ → Bool
fits half (pos n) = nat_lt n half
fits half (negsuc n) = nat_lt n half

unfoldable pub number_at : ℕ → ℕ → List ℕ → Option (ℕ × List ℕ)
number_at most top bytes = leb_at most bytes >>= λ n. if nat_lt n.0 top then Some n else None

unfoldable pub integer_at : ℕ → ℕ → List ℕ → Option (ℤ × List ℕ)
integer_at most half bytes = sleb_at most bytes >>= λ z. if fits half z.0 then Some z else None

abbrev pub natural : ℤ → Option ℕ
natural (pos n) = Some n
natural (negsuc n) = None

-- an s33 that is not negative
unfoldable pub index_at : List ℕ → Option (ℕ × List ℕ)
index_at bytes = integer_at 5 (2 ^ 32) bytes >>= λ z. natural z.0 >>= λ n. Some (n, z.1)

-- the number of which these are the bytes, the lowest first (Binary Format > Values > Floating-Point): a byte, plus 256 times the rest
abbrev pub little : List ℕ → ℕ
little [] = 0
little (b ∷ bs) = b + 256 * little bs

-- a byte that says that more follow stands in front: its seven bits, and the bytes after it
abbrev pub Continues : List ℕ → ℕ → List ℕ → Type 0
Continues bytes bits after = (bytes ≡ (128 + bits) ∷ after) × (bits < 128)

-- no such byte stands in front
abbrev pub IsLast : List ℕ → Type 0
IsLast [] = Unit {0}
IsLast (b ∷ after) = b < 128

-- a number behind groups that give value, where the next one counts scale
abbrev pub above : ℕ → ℕ → ℕ × List ℕ → Option (ℕ × List ℕ)
above value scale x = Some (value + scale * x.0, x.1)

abbrev pub signed_above : ℕ → ℕ → ℤ × List ℕ → Option (ℤ × List ℕ)
signed_above value scale x = Some (pos value +ℤ pos scale *ℤ x.0, x.1)

-- a last byte
abbrev pub last_at : List ℕ → Option (ℕ × List ℕ)
last_at bytes = byte_at bytes >>= λ b. if nat_lt b.0 128 then Some b else None

-- the last byte behind such groups
abbrev pub unsigned_end : ℕ → ℕ → List ℕ → Option (ℕ × List ℕ)
unsigned_end value scale bytes = last_at bytes >>= above value scale

abbrev pub signed_end : ℕ → ℕ → List ℕ → Option (ℤ × List ℕ)
signed_end value scale bytes = last_at bytes >>= λ b. signed_above value scale (last_of b.0, b.1)
