use Rattle.std.proofs.Common.{◌∷◌, []}
use Rattle.wasm_operators.specs.declared.kind.Kind.TheVariants as kinds
use Rattle.wasm_operators.specs.Forms.{args_form}
use Rattle.wasm_text.proofs.Scans.{got, place_as, type_scans, table_scans}
use Rattle.wasm_text.proofs.Together.{two_kinds}
use Rattle.wasm_text.proofs.Bodies.{room_behind}
use Rattle.wasm_text.proofs.scan.scan_type_table.Goals as goal

pub scan_index-requires-clause-room : goal.scan_index-requires-clause-room
scan_index-requires-clause-room c =
    room_behind (args_form (kinds.«Type» ∷ [])) c.args.limits.now c.args.marks.now c.scan_index-table.new.marks c.args.bytes.now c.args.at c.scan_index-table.result c.requires.room c.scan_index-table.ensures.capacity
    (got c.scan_index-table.result (type_scans c.args.limits.now c.args.bytes.now c.args.at c.args.marks.now.items c.scan_index-table.new.marks.items c.scan_index-table.result c.scan_index-table.ensures.indexed) c.if-table.false)

pub returns-clause-scans : goal.returns-clause-scans
returns-clause-scans c =
    place_as c.scan_index.result (two_kinds kinds.«Type» kinds.Table c.args.limits.now c.args.bytes.now c.args.at c.scan_index-table.result c.scan_index.result
    c.args.marks.now.items c.scan_index-table.new.marks.items c.scan_index.new.marks.items
    (got c.scan_index-table.result (type_scans c.args.limits.now c.args.bytes.now c.args.at c.args.marks.now.items c.scan_index-table.new.marks.items c.scan_index-table.result c.scan_index-table.ensures.indexed) c.if-table.false))
    (table_scans c.args.limits.now c.args.bytes.now c.scan_index-table.result c.scan_index-table.new.marks.items c.scan_index.new.marks.items c.scan_index.result c.scan_index.ensures.indexed)
