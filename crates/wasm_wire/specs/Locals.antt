-- Counting the declared locals of a body, from left to right.
use Rattle.std.specs.Prelude.{ℕ, zero, suc, ◌+◌, List, Option, Some, nat_lt, if◌then◌else◌}
use Rattle.wasm_forms.specs.Reading.{◌>>=◌}
use Rattle.wasm_forms.specs.Grammar.{Form, at, Made, U32, ◌then◌}
use Rattle.wasm_forms.specs.Types.{value_type}

-- so many locals of one type: how many
unfoldable pub declaration : Form ℕ
declaration = Made (λ x. x.0) (U32 then value_type)

-- so many more; what is above 50,000 stays so
abbrev pub add_locals : (total count : ℕ) → ℕ
add_locals total count = if nat_lt 50_000 total then total else total + count

-- the total of that many declarations, where they can be read
unfoldable pub totals_at : (count total : ℕ) → List ℕ → Option ℕ
totals_at zero total bytes = Some total
totals_at (suc n) total bytes = at declaration bytes >>= λ x. totals_at n (add_locals total x.0) x.1

-- the count of the declarations, and these
unfoldable pub all_totals_at : List ℕ → Option ℕ
all_totals_at bytes = at U32 bytes >>= λ n. totals_at n.0 0 n.1
