use Rattle.std.proofs.Common.{arith}
use Rattle.wasm_wire.proofs.Order.{pairs_from_next}
use Rattle.wasm_wire.proofs.rules.order.check_order.Goals as goal

pub returns : goal.returns
returns c = pairs_from_next c.args.order.now c.loop-index.index (omega arith) c.loop-index.invariant
