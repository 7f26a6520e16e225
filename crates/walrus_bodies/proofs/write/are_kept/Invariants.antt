use Rattle.std.proofs.Common.{◌≡◌, ◌<◌, ◌≤◌, ℕ, None, Some}
use Rattle.std.specs.Prelude.{slice_index_or}
use Rattle.walrus_bodies.proofs.write.are_kept.Given as goal

-- those so far keep their indices
abbrev pub invariant-table : goal.invariant-table
invariant-table l = (n : ℕ) → l.fn.first ≤ n → n < l.index → slice_index_or l.table n None ≡ Some n
