-- How many bytes a spelling has, told before it is written.
use Rattle.std.specs.Prelude.{◌≡◌, ℕ, ◌<◌, ◌≤◌, ◌^◌, List, length, Result, Ok, Err}
use Rattle.wasm_forms.specs.declared.error.WireError.{WireError}
use Rattle.wasm_forms.specs.declared.error.WireError.TheVariants.{Malformed, Memory, TooLarge}

-- measured: it has so many bytes, fewer than 2 ^ 32, and it fits; too large: it doesn't fit, or has 2 ^ 32 bytes or more; nothing else is answered
abbrev pub Measures : Result ℕ WireError → List ℕ → Type 0 → Type 0
Measures (Ok n) bytes fits = (n ≡ length bytes) × (n < 2 ^ 32) × fits
Measures (Err TooLarge) bytes fits = fits → length bytes < 2 ^ 32 → ⊥
Measures (Err Malformed) bytes fits = ⊥
Measures (Err (Memory e)) bytes fits = ⊥

-- the sum, which is below 2 ^ 32; too large: it is 2 ^ 32 or more; nothing else is answered
abbrev pub Sums : Result ℕ WireError → ℕ → Type 0
Sums (Ok n) sum = (n ≡ sum) × (sum < 2 ^ 32)
Sums (Err TooLarge) sum = 2 ^ 32 ≤ sum
Sums (Err Malformed) sum = ⊥
Sums (Err (Memory e)) sum = ⊥
