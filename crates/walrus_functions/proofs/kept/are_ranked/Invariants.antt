use Rattle.std.proofs.Common.{◌≡◌, ℕ, ◌≤◌, ◌<◌, ◌+◌, Bool, true, false, List}
use Rattle.std.specs.Prelude.{slice_index_or}
use Rattle.walrus_base.specs.Locals.{locals}
use Rattle.walrus_functions.specs.EmittedBody.{types_of}
use Rattle.walrus_functions.specs.Kept.{KeepsIndices, rank_at}
use Rattle.walrus_functions.proofs.kept.are_ranked.Given as goal

-- those before this one keep their indices if they are used, and none has a higher rank than the last
abbrev pub invariant-locals : goal.invariant-locals
invariant-locals l = record {
  kept : (flags : List Bool) → ((i : ℕ) → l.params ≤ i → i < l.index → slice_index_or flags i false ≡ true) → KeepsIndices (types_of (locals l.module_locals)) flags l.first l.params l.index;
  highest : (i : ℕ) → l.params ≤ i → i < l.index → rank_at (types_of (locals l.module_locals)) (l.first + i) ≤ l.lowest;
  behind : l.params ≤ l.index;
}
