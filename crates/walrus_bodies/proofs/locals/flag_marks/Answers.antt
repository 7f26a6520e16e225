use Rattle.std.proofs.Common.{arith}
use Rattle.walrus_bodies.proofs.FlagLemmas.{flag_first, flag_more, flag_all}
use Rattle.walrus_bodies.proofs.locals.flag_marks.Goals as goal

pub marks-init : goal.marks-init
marks-init c = flag_first c.args.bytes.now c.args.marks.now c.args.flags.now.items c.requires

pub marks-preserved : goal.marks-preserved
marks-preserved c = flag_more c.args.bytes.now c.args.marks.now c.marks.mark-index _ c.args.flags.now.items c.marks.flags.items c.flag_mark.new.flags.items c.marks-test.true c.marks.invariant c.flag_mark.ensures.flagged c.flag_mark.ensures.as_many

pub returns-clause-flagged : goal.returns-clause-flagged
returns-clause-flagged c = flag_all c.args.bytes.now c.args.marks.now c.marks.mark-index c.args.flags.now.items c.marks.flags.items (omega (arith, c.marks-test.false)) c.marks.invariant
