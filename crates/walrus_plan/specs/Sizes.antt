-- The order in which the functions with a body are written.
use Rattle.std.specs.Prelude.{◌≡◌, ℕ, List, Option, map}
use Rattle.std.specs.List.Sorted.{IsPermutation, IsSorted}
use Rattle.std.specs.Ordering.{nat_cmp, ordering_then}
use Rattle.std.specs.declared.cmp.Ordering.{Ordering}
use Rattle.walrus_base.specs.Arena.{entries}
use Rattle.walrus_items.specs.Function.{size_of}
use Rattle.walrus_items.specs.Functions.{FunctionValue, local_functions}

-- how many operators the body of each function has, with the function's place
abbrev pub local_sizes : List (Option FunctionValue) → List (ℕ × ℕ)
local_sizes funcs = map (λ e. (size_of e.1, e.0)) (local_functions (entries funcs))

-- the larger one first, and of two as large the one of the smaller place
abbrev pub by_size : ℕ × ℕ → ℕ × ℕ → Ordering
by_size x y = ordering_then (nat_cmp y.0 x.0) (nat_cmp x.1 y.1)

-- these are the places of all functions with a body, the larger ones first
pub record IsOrder (funcs : List (Option FunctionValue)) (order : List ℕ) : Type 0 where
  pub sized : List (ℕ × ℕ)
  pub is : order ≡ map (λ s. s.1) sized
  pub moved : IsPermutation (local_sizes funcs) sized
  pub sorted : IsSorted by_size sized
