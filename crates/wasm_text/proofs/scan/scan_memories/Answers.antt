use Rattle.std.proofs.Common.{◌∷◌, []}
use Rattle.wasm_operators.specs.declared.kind.Kind.TheVariants as kinds
use Rattle.wasm_operators.specs.Forms.{args_form}
use Rattle.wasm_text.proofs.Scans.{got, place_as, memory_scans}
use Rattle.wasm_text.proofs.Together.{two_kinds}
use Rattle.wasm_text.proofs.Bodies.{room_behind}
use Rattle.wasm_text.proofs.scan.scan_memories.Goals as goal

pub scan_index-requires-clause-room : goal.scan_index-requires-clause-room
scan_index-requires-clause-room c =
    room_behind (args_form (kinds.Memory ∷ [])) c.args.limits.now c.args.marks.now c.scan_index-source.new.marks c.args.bytes.now c.args.at c.scan_index-source.result c.requires.room c.scan_index-source.ensures.capacity
    (got c.scan_index-source.result (memory_scans c.args.limits.now c.args.bytes.now c.args.at c.args.marks.now.items c.scan_index-source.new.marks.items c.scan_index-source.result c.scan_index-source.ensures.indexed) c.if-source.false)

pub returns-clause-scans : goal.returns-clause-scans
returns-clause-scans c =
    place_as c.scan_index.result (two_kinds kinds.Memory kinds.Memory c.args.limits.now c.args.bytes.now c.args.at c.scan_index-source.result c.scan_index.result
    c.args.marks.now.items c.scan_index-source.new.marks.items c.scan_index.new.marks.items
    (got c.scan_index-source.result (memory_scans c.args.limits.now c.args.bytes.now c.args.at c.args.marks.now.items c.scan_index-source.new.marks.items c.scan_index-source.result c.scan_index-source.ensures.indexed) c.if-source.false))
    (memory_scans c.args.limits.now c.args.bytes.now c.scan_index-source.result c.scan_index-source.new.marks.items c.scan_index.new.marks.items c.scan_index.result c.scan_index.ensures.indexed)
