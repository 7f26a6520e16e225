-- What emission tells of the places in the bytes that it wrote.
use Rattle.std.specs.Prelude.{ℕ, List}

-- each function with the start and the end of its body; where the code begins; each location with its place
pub record Transform : Type 0 where
  pub function_ranges : List (ℕ × (ℕ × ℕ))
  pub code_section_start : ℕ
  pub instruction_map : List (ℕ × ℕ)
