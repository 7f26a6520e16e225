use Rattle.std.proofs.Common.{arith}
use Rattle.walrus_functions.proofs.MarkLemmas.{marks_one}
use Rattle.walrus_functions.proofs.marks.mark.Goals as goal

pub returns-clause-marks : goal.returns-clause-marks
returns-clause-marks c _ = marks_one c.args.first c.args.marks.now.items c.args.place c.in-Some.offset (omega (arith, c.in-Some.ensures)) (omega (arith, c.in-Some.ensures)) (omega (arith, c.if-offset-len.false))
