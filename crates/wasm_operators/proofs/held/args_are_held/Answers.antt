use Rattle.wasm_operators.specs.Standing.{ArgHeld}
use Rattle.wasm_operators.proofs.Written.{each_at, each_whole}
use Rattle.wasm_operators.proofs.held.args_are_held.Goals as goal

pub each-preserved : goal.each-preserved
each-preserved c = each_at ArgHeld c.args.args.now c.each.arg-index _ c.each-test.true c.each.invariant c.arg_is_held.ensures

pub returns : goal.returns
returns c = each_whole ArgHeld c.args.args.now c.each.arg-index c.each-test.false c.each.invariant
