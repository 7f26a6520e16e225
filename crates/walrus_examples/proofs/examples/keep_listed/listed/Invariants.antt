use Rattle.std.proofs.Common.{length}
use Rattle.walrus.specs.Items.Functions.{functions}
use Rattle.walrus.specs.Items.Roots.{places}
use Rattle.walrus_examples.proofs.ListedBytes.{SoFar}
use Rattle.walrus_examples.proofs.examples.keep_listed.listed.Given as goal

-- the bytes that are left
abbrev pub decreases-indices : goal.decreases-indices
decreases-indices l = length l.rest

-- the functions so far, and the bytes behind them
abbrev pub invariant-indices : goal.invariant-indices
invariant-indices l = SoFar (functions l.funcs) l.bytes (places l.ids.items) l.rest
