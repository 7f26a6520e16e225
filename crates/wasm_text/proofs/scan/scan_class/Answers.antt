use Rattle.std.proofs.Common.{inr}
use Rattle.wasm_text.specs.declared.class.Class.TheVariants as class
use Rattle.wasm_text.proofs.Scans.{function_scans, global_scans, type_scans, table_scans, memory_scans}
use Rattle.wasm_text.proofs.Together.{bare_args}
use Rattle.wasm_text.proofs.Floats.{f32_scans, f64_scans}
use Rattle.wasm_text.proofs.Operator.{as_class}
use Rattle.wasm_text.proofs.scan.scan_class.Goals as goal

pub returns-in-Bare-clause-scans : goal.returns-in-Bare-clause-scans
returns-in-Bare-clause-scans c =
    as_class c.args.class class.Bare c.args.limits.now c.args.bytes.now c.args.at c.args.marks.now.items c.args.marks.now.items c.args.at c.in-Bare.is
    (inr (bare_args c.args.limits.now c.args.bytes.now c.args.at c.args.marks.now.items c.requires.room.0))

pub returns-in-Function-clause-scans : goal.returns-in-Function-clause-scans
returns-in-Function-clause-scans c =
    as_class c.args.class class.Function c.args.limits.now c.args.bytes.now c.args.at c.args.marks.now.items c.scan_index.new.marks.items c.scan_index.result c.in-Function.is
    (function_scans c.args.limits.now c.args.bytes.now c.args.at c.args.marks.now.items c.scan_index.new.marks.items c.scan_index.result c.scan_index.ensures.indexed)

pub returns-in-Global-clause-scans : goal.returns-in-Global-clause-scans
returns-in-Global-clause-scans c =
    as_class c.args.class class.Global c.args.limits.now c.args.bytes.now c.args.at c.args.marks.now.items c.scan_index-in-Global.new.marks.items c.scan_index-in-Global.result c.in-Global.is
    (global_scans c.args.limits.now c.args.bytes.now c.args.at c.args.marks.now.items c.scan_index-in-Global.new.marks.items c.scan_index-in-Global.result c.scan_index-in-Global.ensures.indexed)

pub returns-in-Type-clause-scans : goal.returns-in-Type-clause-scans
returns-in-Type-clause-scans c =
    as_class c.args.class class.«Type» c.args.limits.now c.args.bytes.now c.args.at c.args.marks.now.items c.scan_index-in-Type.new.marks.items c.scan_index-in-Type.result c.in-Type.is
    (type_scans c.args.limits.now c.args.bytes.now c.args.at c.args.marks.now.items c.scan_index-in-Type.new.marks.items c.scan_index-in-Type.result c.scan_index-in-Type.ensures.indexed)

pub returns-in-Table-clause-scans : goal.returns-in-Table-clause-scans
returns-in-Table-clause-scans c =
    as_class c.args.class class.Table c.args.limits.now c.args.bytes.now c.args.at c.args.marks.now.items c.scan_index-in-Table.new.marks.items c.scan_index-in-Table.result c.in-Table.is
    (table_scans c.args.limits.now c.args.bytes.now c.args.at c.args.marks.now.items c.scan_index-in-Table.new.marks.items c.scan_index-in-Table.result c.scan_index-in-Table.ensures.indexed)

pub returns-in-Memory-clause-scans : goal.returns-in-Memory-clause-scans
returns-in-Memory-clause-scans c =
    as_class c.args.class class.Memory c.args.limits.now c.args.bytes.now c.args.at c.args.marks.now.items c.scan_index-in-Memory.new.marks.items c.scan_index-in-Memory.result c.in-Memory.is
    (memory_scans c.args.limits.now c.args.bytes.now c.args.at c.args.marks.now.items c.scan_index-in-Memory.new.marks.items c.scan_index-in-Memory.result c.scan_index-in-Memory.ensures.indexed)

pub returns-in-F32-clause-scans : goal.returns-in-F32-clause-scans
returns-in-F32-clause-scans c =
    as_class c.args.class class.F32 c.args.limits.now c.args.bytes.now c.args.at c.args.marks.now.items c.args.marks.now.items c.past_bytes.result c.in-F32.is
    (f32_scans c.args.limits.now c.args.bytes.now c.args.at c.past_bytes.result c.args.marks.now.items (λ i. (c.type_inv.bytes i).fits) c.past_bytes.ensures)

pub returns-in-F64-clause-scans : goal.returns-in-F64-clause-scans
returns-in-F64-clause-scans c =
    as_class c.args.class class.F64 c.args.limits.now c.args.bytes.now c.args.at c.args.marks.now.items c.args.marks.now.items c.past_bytes-in-F64.result c.in-F64.is
    (f64_scans c.args.limits.now c.args.bytes.now c.args.at c.past_bytes-in-F64.result c.args.marks.now.items (λ i. (c.type_inv.bytes i).fits) c.past_bytes-in-F64.ensures)
