use Rattle.wasm_text.proofs.Scans.{label_scans}
use Rattle.wasm_text.proofs.scan.scan_label.Goals as goal

pub returns-clause-scans : goal.returns-clause-scans
returns-clause-scans c =
    label_scans c.args.limits.now c.args.bytes.now c.args.at c.past_number.result c.number_at-label.result c.args.marks.now.items c.put_mark_if_padded.new.marks.items c.put_mark_if_padded.result
    c.if-label-limits.false c.if-label.false c.number_at-label.ensures c.past_number.ensures c.put_mark_if_padded.ensures.marked
