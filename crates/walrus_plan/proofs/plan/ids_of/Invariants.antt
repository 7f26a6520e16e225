use Rattle.std.proofs.Common.{◌≡◌, ◌++◌, map, drop}
use Rattle.walrus_base.specs.Id.{place}
use Rattle.walrus_plan.proofs.plan.ids_of.Given as goal

-- the places so far, and those that are still to come
abbrev pub invariant-loop-id : goal.invariant-loop-id
invariant-loop-id l = map place l.ids.items ++ map (λ s. place s.1) (drop l.id-index l.sized) ≡ map (λ s. place s.1) l.sized
