use Rattle.std.proofs.Common.{◌∷◌, [], ◌+◌, arith}
use Rattle.wasm_operators.specs.declared.kind.Kind.TheVariants as kinds
use Rattle.wasm_text.proofs.Scans.{memory_scans, table_scans}
use Rattle.wasm_text.proofs.Operator.{prefixed_bare, copy_scans, fill_scans, prefixed_scans, fc_table}
use Rattle.wasm_text.proofs.scan.scan_prefixed.Goals as goal

pub returns-in-10-clause-scans : goal.returns-in-10-clause-scans
returns-in-10-clause-scans c =
    copy_scans c.in-Some.number c.args.limits.now c.args.bytes.now c.args.at c.args.marks.now.items c.scan_memories.new.marks.items c.in-Some.ensures.0 c.in-10.is c.scan_memories.result c.scan_memories.ensures.scans

pub returns-in-11-clause-scans : goal.returns-in-11-clause-scans
returns-in-11-clause-scans c =
    fill_scans c.in-Some.number c.args.limits.now c.args.bytes.now c.args.at c.args.marks.now.items c.scan_index.new.marks.items c.in-Some.ensures.0 c.in-11.is c.scan_index.result
    (memory_scans c.args.limits.now c.args.bytes.now (c.args.at + 1) c.args.marks.now.items c.scan_index.new.marks.items c.scan_index.result c.scan_index.ensures.indexed)

pub returns-in-0-to-7-clause-scans : goal.returns-in-0-to-7-clause-scans
returns-in-0-to-7-clause-scans c =
    prefixed_bare c.in-Some.number c.args.limits.now c.args.bytes.now c.args.at c.args.marks.now.items c.in-Some.ensures.0 c.in-Some.ensures.1 (omega (arith, c.in-0-to-7))

pub returns-in-15-to-17-clause-scans : goal.returns-in-15-to-17-clause-scans
returns-in-15-to-17-clause-scans c =
    prefixed_scans c.in-Some.number (kinds.Table ∷ []) c.args.limits.now c.args.bytes.now c.args.at c.args.marks.now.items c.scan_index-in-15-to-17.new.marks.items c.in-Some.ensures.0 (omega (arith, c.in-15-to-17))
    (fc_table c.in-Some.number (omega (arith, c.in-15-to-17)) (omega (arith, c.in-15-to-17))) c.scan_index-in-15-to-17.result
    (table_scans c.args.limits.now c.args.bytes.now (c.args.at + 1) c.args.marks.now.items c.scan_index-in-15-to-17.new.marks.items c.scan_index-in-15-to-17.result c.scan_index-in-15-to-17.ensures.indexed)
