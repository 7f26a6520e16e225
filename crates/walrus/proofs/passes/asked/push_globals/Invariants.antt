use Rattle.std.proofs.Common.{◌≡◌, ◌++◌, drop, map}
use Rattle.walrus_base.specs.Id.{place}
use Rattle.walrus_base.specs.Operators.{Globals}
use Rattle.walrus_contents.specs.Named.{items_in}
use Rattle.walrus.proofs.passes.asked.push_globals.Given as goal

-- what was put so far and what is left to put are the whole
abbrev pub invariant-loop-id : goal.invariant-loop-id
invariant-loop-id l = items_in l.to ++ map (λ i. (Globals, i)) (map place (drop l.id-index l.ids)) ≡ items_in l.fn.to ++ map (λ i. (Globals, i)) (map place l.ids)
