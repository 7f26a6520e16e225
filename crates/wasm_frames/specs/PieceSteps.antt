-- Reading a section as it stands, step by step.
use Rattle.std.specs.Prelude.{ℕ, ◌-◌, List, length, take, Option, Some, None, nat_eq, if◌then◌else◌}
use Rattle.wasm_forms.specs.Reading.{◌>>=◌, byte_at}
use Rattle.wasm_forms.specs.Grammar.{Block, U32, name, at}
use Rattle.wasm_frames.specs.Pieces.{Piece, is_list}

-- the name of a custom section, found in front of its content
unfoldable pub name_in : ℕ → List ℕ → Option (Option (List ℕ))
name_in id content = if nat_eq id 0 then (at name content >>= λ n. Some (Some n.0)) else Some None

-- the count of a list's entries, found in front of its content
unfoldable pub count_in : ℕ → List ℕ → Option ℕ
count_in id content = if is_list id then (at U32 content >>= λ n. Some n.0) else None

-- the section at this place, and the bytes behind it
unfoldable pub piece_at : ℕ → List ℕ → Option (Piece × List ℕ)
piece_at place bytes = byte_at bytes >>= λ i. at Block i.1 >>= λ c. name_in i.0 c.0 >>= λ n.
    Some (record { id = i.0; name = n; entries = count_in i.0 c.0; start = place; bytes = take (length bytes - length c.1) bytes }, c.1)
