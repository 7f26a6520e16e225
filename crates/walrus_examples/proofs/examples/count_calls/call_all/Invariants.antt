use Rattle.std.proofs.Common.{◌≡◌, length}
use Rattle.walrus.specs.Base.Id.{place}
use Rattle.walrus.specs.Items.Functions.{functions}
use Rattle.walrus_examples.proofs.CountTurn.{CallsSome}
use Rattle.walrus_examples.proofs.examples.count_calls.call_all.Given as goal

-- at the places so far each function begins with the call
abbrev pub invariant-places : goal.invariant-places
invariant-places l = CallsSome (place l.called) l.at (functions l.initial.all) (functions l.all) × (l.at-end ≡ length (functions l.initial.all))
