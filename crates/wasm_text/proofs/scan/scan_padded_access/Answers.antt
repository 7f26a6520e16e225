use Rattle.std.proofs.Common.{arith}
use Rattle.wasm_text.proofs.Scans.{access_scans}
use Rattle.wasm_text.proofs.scan.scan_padded_access.Goals as goal

pub returns-clause-scans : goal.returns-clause-scans
returns-clause-scans c =
    access_scans c.args.limits.now c.args.bytes.now c.args.at c.past_number-offset.result c.past_u64-behind.result c.number_at-flags.result c.args.marks.now.items c.put_mark.new.marks.items c.put_mark.result
    (omega (arith, c.if-flags.false)) (omega (arith, c.if-limits-eq0.false)) c.past_u64-behind.type_inv c.number_at-flags.ensures c.past_number-offset.ensures c.past_u64-behind.ensures c.put_mark.ensures.marked
