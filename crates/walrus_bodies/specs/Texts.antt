-- Bytes as so many operators, one behind another (Binary Format > Instructions > Expressions).
use Rattle.std.specs.Prelude.{ℕ, zero, suc, ◌-◌, length, Bool, true, false, List, [], ◌∷◌, Option, Some, None}
use Rattle.wasm_forms.specs.Grammar.{Row, at}
use Rattle.wasm_text.specs.Operators.{Op}
use Rattle.wasm_text.specs.Forms.{operator}

-- so many operators in front, and the bytes behind them
abbrev pub read_in_front : ℕ → List ℕ → Option (List Op × List ℕ)
read_in_front count bytes = at (Row operator count) bytes

abbrev pub values : Option (List Op × List ℕ) → List Op
values None = []
values (Some x) = x.0

abbrev pub is_whole : Option (List Op × List ℕ) → Bool
is_whole None = false
is_whole (Some (ops, [])) = true
is_whole (Some (ops, b ∷ rest)) = false

-- the operators in front
abbrev pub texts_at : ℕ → List ℕ → List Op
texts_at count bytes = values (read_in_front count bytes)

-- whether the bytes are so many operators and no byte more
abbrev pub are_operators : ℕ → List ℕ → Bool
are_operators count bytes = is_whole (read_in_front count bytes)

abbrev pub behind_first : (List ℕ → List ℕ) → Option (Op × List ℕ) → List ℕ
behind_first next None = []
behind_first next (Some x) = next x.1

-- the places of so many operators in bytes that end at a place
unfoldable pub places_at : (end count : ℕ) → List ℕ → List ℕ
places_at end zero bytes = []
places_at end (suc count) bytes = (end - length bytes) ∷ behind_first (λ rest. places_at end count rest) (at operator bytes)
