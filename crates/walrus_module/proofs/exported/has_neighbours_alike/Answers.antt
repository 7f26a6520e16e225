use Rattle.std.proofs.Common.{arith}
use Rattle.wasm_wire.proofs.Names.{neighbours_more}
use Rattle.walrus_module.proofs.exported.has_neighbours_alike.Goals as goal

pub loop-index-preserved : goal.loop-index-preserved
loop-index-preserved c =
    neighbours_more c.args.names.now c.loop-index.index _ _ c.eq.result (omega arith) (omega arith) c.eq.ensures c.if-eq.false
    c.loop-index.invariant
