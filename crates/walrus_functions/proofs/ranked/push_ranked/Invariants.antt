use Rattle.std.proofs.Common.{◌≡◌, ◌++◌, map, drop}
use Rattle.walrus_base.specs.Id.{place}
use Rattle.walrus_functions.specs.Ranked.{of_rank}
use Rattle.walrus_functions.proofs.ranked.push_ranked.Given as goal

-- the locals so far, and those of this rank that are left
abbrev pub invariant-found : goal.invariant-found
invariant-found l = map place l.ids.items ++ map (λ e. e.0) (of_rank l.wanted (drop l.local-index l.found)) ≡ map place l.initial.ids.items ++ map (λ e. e.0) (of_rank l.wanted l.found)
