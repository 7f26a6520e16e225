use Rattle.std.proofs.Common.{◌≡◌}
use Rattle.std.specs.Io.KnownBytes.{Consumes}
use Rattle.walrus.proofs.transfer.read_all.Given as goal

-- the bytes so far are what was taken, and no read has failed
abbrev pub invariant-loop-turn : goal.invariant-loop-turn
invariant-loop-turn g l =
    Consumes (g.R.Source.left l.fn.source) (g.R.Source.left l.source) l.bytes.items
    × (g.R.Source.read_failures l.source ≡ g.R.Source.read_failures l.fn.source)
