use Rattle.std.proofs.Common.{length}
use Rattle.walrus_bodies.proofs.RoomLemmas.{Fills}
use Rattle.walrus_bodies.proofs.listed.Listed.fill.Given as goal

abbrev pub invariant-operators : goal.invariant-operators
invariant-operators l = Fills l.fn.front.items l.fn.self l.left.items l.self

abbrev pub decreases-operators : goal.decreases-operators
decreases-operators l = length l.left.items
