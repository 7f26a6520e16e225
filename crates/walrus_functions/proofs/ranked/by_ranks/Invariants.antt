use Rattle.std.proofs.Common.{◌≡◌, map}
use Rattle.walrus_base.specs.Id.{place}
use Rattle.walrus_functions.specs.Ranked.{by_ranks}
use Rattle.walrus_functions.proofs.ranked.by_ranks.Given as goal

-- those of lower ranks
abbrev pub invariant-ranks : goal.invariant-ranks
invariant-ranks l = map place l.ids.items ≡ map (λ e. e.0) (by_ranks l.wanted l.found)
