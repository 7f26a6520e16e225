use Rattle.std.proofs.Common.{◌≡◌, length}
use Rattle.walrus.specs.Base.Id.{place}
use Rattle.walrus.specs.Base.IdSet.{has_id}
use Rattle.walrus.specs.Items.Functions.{functions}
use Rattle.walrus_tools.proofs.GoersTurn.{MarksSome}
use Rattle.walrus_tools.proofs.goers.goers.Given as goal

-- of the functions so far those are marked that go
abbrev pub invariant-places : goal.invariant-places
invariant-places l = MarksSome (functions l.all) (has_id l.used) (place l.id) l.at l.marks × (l.at-end ≡ length (functions l.all))
