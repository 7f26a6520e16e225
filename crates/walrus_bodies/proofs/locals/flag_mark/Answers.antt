use Rattle.std.proofs.Common.{arith}
use Rattle.walrus_bodies.proofs.FlagLemmas.{other_flag, local_flag, past_flag}
use Rattle.walrus_bodies.proofs.locals.flag_mark.Goals as goal

pub returns-then-mark-ne-MARK_LOCAL-clause-flagged : goal.returns-then-mark-ne-MARK_LOCAL-clause-flagged
returns-then-mark-ne-MARK_LOCAL-clause-flagged c = other_flag c.args.bytes.now c.args.mark c.args.flags.now.items c.if-mark-ne-MARK_LOCAL.true

pub returns-then-index-len-clause-flagged : goal.returns-then-index-len-clause-flagged
returns-then-index-len-clause-flagged c =
    local_flag c.args.bytes.now c.args.mark c.number_at-index.result c.args.flags.now.items c.if-mark-ne-MARK_LOCAL.false c.number_at-index.ensures (omega (arith, c.if-index-len.true, c.len.ensures))

pub returns-else-index-len-clause-flagged : goal.returns-else-index-len-clause-flagged
returns-else-index-len-clause-flagged c =
    past_flag c.args.bytes.now c.args.mark c.number_at-index.result c.args.flags.now.items c.if-mark-ne-MARK_LOCAL.false c.number_at-index.ensures (omega (arith, c.if-index-len.false, c.len.ensures))
