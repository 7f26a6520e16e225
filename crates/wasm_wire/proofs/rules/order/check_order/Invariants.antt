use Rattle.wasm_wire.proofs.Order.{EachBeforeNext}
use Rattle.wasm_wire.proofs.rules.order.check_order.Given as goal

-- each section so far stands before the next one
abbrev pub invariant-loop-index : goal.invariant-loop-index
invariant-loop-index l = EachBeforeNext l.order l.index
