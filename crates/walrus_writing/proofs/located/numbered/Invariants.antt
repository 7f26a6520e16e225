use Rattle.std.proofs.Common.{◌≡◌, ◌++◌, ℕ, drop, map}
use Rattle.walrus_base.specs.declared.id.Id.{Id}
use Rattle.walrus_base.specs.declared.keys.FunctionKey.{FunctionKey}
use Rattle.walrus_writing.specs.Located.{places_in}
use Rattle.walrus_writing.proofs.located.numbered.Given as goal

-- the places so far, and those that are still to come
abbrev pub invariant-order : goal.invariant-order
invariant-order l = map (λ (t : Id FunctionKey × ℕ). t.1) l.turns.items ++ places_in l.at (drop l.at l.order) ≡ places_in 0 l.order
