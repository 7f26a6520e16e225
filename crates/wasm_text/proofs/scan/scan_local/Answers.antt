use Rattle.std.proofs.Common.{◌+◌, inr, arith}
use Rattle.wasm_text.proofs.Leaving.{short_stands, low_local, short_local}
use Rattle.wasm_text.proofs.scan.scan_local.Goals as goal

pub returns-then-index-unmarked-clause-scans : goal.returns-then-index-unmarked-clause-scans
returns-then-index-unmarked-clause-scans c =
    low_local c.args.limits.now c.args.unmarked.now c.args.bytes.now c.args.at (c.args.at + 1) c.from-index.result c.args.marks.now.items c.put_mark.new.marks.items c.put_mark.result (omega (arith, c.if-index-limits.false))
    (inr (short_stands c.args.bytes.now c.args.at c.in-Some.byte c.from-index.result c.in-Some.ensures.0 c.in-Some.ensures.1 (omega (arith, c.if-byte-lt128.true)) c.from-index.ensures)) c.put_mark.ensures.marked

pub returns-else-index-unmarked-clause-scans : goal.returns-else-index-unmarked-clause-scans
returns-else-index-unmarked-clause-scans c =
    short_local c.args.limits.now c.args.unmarked.now c.name_local.new.unmarked c.args.bytes.now c.args.at c.from-index.result c.args.marks.now.items
    (short_stands c.args.bytes.now c.args.at c.in-Some.byte c.from-index.result c.in-Some.ensures.0 c.in-Some.ensures.1 (omega (arith, c.if-byte-lt128.true)) c.from-index.ensures)
    (omega (arith, c.if-index-limits.false)) (omega (arith, c.if-index-unmarked.false)) c.name_local.ensures.first c.name_local.ensures.accessed c.name_local.ensures.named
