use Rattle.std.proofs.Common.{drop}
use Rattle.walrus_bodies.proofs.FlagLemmas.{Flagging}
use Rattle.walrus_bodies.proofs.locals.flag_marks.Given as goal

abbrev pub invariant-marks : goal.invariant-marks
invariant-marks l = Flagging l.bytes l.marks (drop l.mark-index l.marks) l.fn.flags.items l.flags.items
