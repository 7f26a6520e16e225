-- Names in the order of their bytes.
use Rattle.std.specs.Prelude.{◌≢◌, ℕ, List, length}
use Rattle.std.specs.Borrow.{Bor}
use Rattle.std.specs.Cmp.Lexicographic.{slice_cmp}
use Rattle.std.specs.List.{AllAdjacentBelow}
use Rattle.std.specs.Ordering.{nat_cmp}
use Rattle.std.specs.declared.cmp.Ordering.{Ordering}

abbrev Text : Type 0
Text = Bor (List ℕ)

abbrev pub by_bytes : Text → Text → Ordering
by_bytes x y = slice_cmp nat_cmp x.now y.now

-- no name is the next one
abbrev pub NeighboursDiffer : List Text → Type 0
NeighboursDiffer names = AllAdjacentBelow (λ a b. a.now ≢ b.now) names (length names)
