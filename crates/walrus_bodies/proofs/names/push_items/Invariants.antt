use Rattle.std.proofs.Common.{drop}
use Rattle.walrus_bodies.proofs.NamesShown.{Putting}
use Rattle.walrus_bodies.proofs.names.push_items.Given as goal

abbrev pub invariant-marks : goal.invariant-marks
invariant-marks l = Putting l.bytes l.marks (drop l.mark-index l.marks) l.fn.to.items l.to.items
