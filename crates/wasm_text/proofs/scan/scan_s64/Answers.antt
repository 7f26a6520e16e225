use Rattle.wasm_text.proofs.Scans.{s64_scans}
use Rattle.wasm_text.proofs.scan.scan_s64.Goals as goal

pub returns-clause-scans : goal.returns-clause-scans
returns-clause-scans c = λ limits. s64_scans limits c.args.bytes.now c.args.at c.past_s64.result c.args.marks.now.items c.put_mark_if_padded.new.marks.items c.put_mark_if_padded.result c.past_s64.ensures c.put_mark_if_padded.ensures.marked
