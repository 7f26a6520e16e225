use Rattle.std.proofs.Common.{◌≡◌, ◌++◌, replicate}
use Rattle.walrus_bodies.proofs.declarations.push_times.Given as goal

abbrev pub invariant-loop-turn : goal.invariant-loop-turn
invariant-loop-turn l = l.types.items ≡ l.initial.types.items ++ replicate l._turn l.ty
