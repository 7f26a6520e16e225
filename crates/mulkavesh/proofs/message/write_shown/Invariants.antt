use Rattle.std.proofs.Common.{◌≡◌, List, ℕ, ◌++◌, length}
use Rattle.std.specs.Io.KnownBytes.{Appends}
use Rattle.mulkavesh.specs.Visible.{shown}
use Rattle.mulkavesh.proofs.message.write_shown.Given as goal

-- a front of what is shown was written, and the rest of the text makes the rest of it
abbrev pub invariant-pieces : goal.invariant-pieces
invariant-pieces g l =
    ((front : List ℕ) × (shown l.text ≡ front ++ shown l.rest) × Appends (g.E.Sink.held l.fn.errors) (g.E.Sink.held l.errors) front)
    × (g.E.Sink.write_failures l.errors ≡ g.E.Sink.write_failures l.fn.errors)

abbrev pub decreases-pieces : goal.decreases-pieces
decreases-pieces g l = length l.rest
