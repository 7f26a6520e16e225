use Rattle.wasm_text.proofs.Scans.{s32_scans}
use Rattle.wasm_text.proofs.scan.scan_s32.Goals as goal

pub returns-clause-scans : goal.returns-clause-scans
returns-clause-scans c = λ limits. s32_scans limits c.args.bytes.now c.args.at c.past_s32.result c.args.marks.now.items c.put_mark_if_padded.new.marks.items c.put_mark_if_padded.result c.past_s32.ensures c.put_mark_if_padded.ensures.marked
