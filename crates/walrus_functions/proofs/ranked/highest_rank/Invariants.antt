use Rattle.std.proofs.Common.{◌≤◌, take}
use Rattle.std.specs.Prelude.{All}
use Rattle.walrus_base.specs.Value.{val_type}
use Rattle.walrus_functions.specs.DeclaredLocals.{rank}
use Rattle.walrus_functions.proofs.ranked.highest_rank.Given as goal

-- no rank so far is higher
abbrev pub invariant-found : goal.invariant-found
invariant-found l = All (λ e. rank (val_type e.1) ≤ l.highest) (take l.ty-index l.found)
