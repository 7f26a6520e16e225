use Rattle.std.proofs.Common.{sym, ◌∙◌}
use Rattle.wasm_text.proofs.Blocks.{type_block_scans}
use Rattle.wasm_text.proofs.scan.scan_type_block.Goals as goal

pub returns-in-Ok-clause-scans : goal.returns-in-Ok-clause-scans
returns-in-Ok-clause-scans c =
    let read = c.in-Ok.ensures.found in
    type_block_scans c.args.first c.in-Ok.index c.args.limits.now c.args.bytes.now read.0 c.in-Ok.after.now c.args.at c.args.marks.now.items c.put_mark.new.marks.items c.put_mark.result
    c.requires.index c.if-index-limits.true c.requires.first (sym c.rest_from.ensures ∙ read.1.0) read.1.1 c.put_mark.ensures.marked
