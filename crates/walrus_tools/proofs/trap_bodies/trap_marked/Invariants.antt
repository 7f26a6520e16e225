use Rattle.std.proofs.Common.{◌≡◌, length}
use Rattle.walrus.specs.Base.Marks.{is_marked}
use Rattle.walrus.specs.Items.Functions.{functions}
use Rattle.walrus_tools.proofs.TrapTurn.{TrapsSome}
use Rattle.walrus_tools.proofs.trap_bodies.trap_marked.Given as goal

-- at the places so far each function that is marked traps
abbrev pub invariant-places : goal.invariant-places
invariant-places l = TrapsSome (is_marked l.marks) l.at (functions l.initial.all) (functions l.all) × (l.at-end ≡ length (functions l.initial.all))
