use Rattle.std.proofs.Common.{arith}
use Rattle.wasm_text.proofs.Forms.{small_stands}
use Rattle.wasm_text.proofs.Leaving.{low_local, long_local}
use Rattle.wasm_text.proofs.scan.scan_long_local.Goals as goal

pub returns-then-index-from-2-clause-scans : goal.returns-then-index-from-2-clause-scans
returns-then-index-from-2-clause-scans c =
    low_local c.args.limits.now c.args.unmarked.now c.args.bytes.now c.args.at c.past_number-behind.result c.number_at-index.result c.args.marks.now.items c.put_mark.new.marks.items c.put_mark.result (omega (arith, c.if-index-from.false, c.from.ensures))
    (small_stands c.args.bytes.now c.args.at c.past_number-behind.result c.number_at-index.result c.past_number-behind.ensures c.number_at-index.ensures (omega (arith, c.if-index-from.false, c.from.ensures, c.from.type_inv))) c.put_mark.ensures.marked

pub returns-clause-scans : goal.returns-clause-scans
returns-clause-scans c =
    long_local c.args.limits.now c.args.unmarked.now c.name_local.new.unmarked c.args.bytes.now c.args.at c.past_number-behind.result c.number_at-index.result c.args.marks.now.items c.put_mark_if_padded.new.marks.items c.put_mark_if_padded.result
    (small_stands c.args.bytes.now c.args.at c.past_number-behind.result c.number_at-index.result c.past_number-behind.ensures c.number_at-index.ensures (omega (arith, c.if-index-from.false, c.from.ensures, c.from.type_inv)))
    (omega (arith, c.if-index-from.false, c.from.ensures)) (omega (arith, c.if-index-from-2.false, c.from-2.ensures)) c.name_local.ensures.first c.name_local.ensures.accessed c.name_local.ensures.named c.put_mark_if_padded.ensures.marked
