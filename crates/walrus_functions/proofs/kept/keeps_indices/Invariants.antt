use Rattle.std.proofs.Common.{ℕ, ◌≤◌, ◌<◌, ◌+◌}
use Rattle.walrus_base.specs.Locals.{locals}
use Rattle.walrus_functions.specs.EmittedBody.{types_of}
use Rattle.walrus_functions.specs.Kept.{KeepsIndices, rank_at}
use Rattle.walrus_functions.proofs.kept.keeps_indices.Given as goal

-- those before this one keep their indices, and none has a higher rank than the last
abbrev pub invariant-locals : goal.invariant-locals
invariant-locals l = record {
  kept : KeepsIndices (types_of (locals l.module_locals)) l.used l.first l.params l.index;
  highest : (i : ℕ) → l.params ≤ i → i < l.index → rank_at (types_of (locals l.module_locals)) (l.first + i) ≤ l.least;
}
