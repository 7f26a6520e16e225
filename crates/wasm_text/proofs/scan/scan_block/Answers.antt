use Rattle.std.proofs.Common.{inl, inr, arith}
use Rattle.wasm_text.proofs.Blocks.{block_scans}
use Rattle.wasm_text.proofs.scan.scan_block.Goals as goal

pub returns-in-64-clause-scans : goal.returns-in-64-clause-scans
returns-in-64-clause-scans c =
    block_scans c.in-Some.first c.args.limits.now c.args.bytes.now c.args.at c.args.marks.now.items c.in-Some.ensures.0 c.in-Some.ensures.1 (inl c.in-64.is)

pub returns-in-123-to-127-clause-scans : goal.returns-in-123-to-127-clause-scans
returns-in-123-to-127-clause-scans c =
    block_scans c.in-Some.first c.args.limits.now c.args.bytes.now c.args.at c.args.marks.now.items c.in-Some.ensures.0 c.in-Some.ensures.1
    (inr (omega (arith, c.in-123-to-127), omega (arith, c.in-123-to-127)))
