use Rattle.wasm_operators.specs.Spelling.{arg_bytes}
use Rattle.wasm_operators.proofs.write.write_args.Goals as goal
use Rattle.wasm_forms.proofs.RowTurns.{written_at}

pub each-preserved : goal.each-preserved
each-preserved c = written_at arg_bytes c.args.args.now c.each.arg-index _ c.args.to.now.items c.each.to.items c.write_arg.new.to.items c.each-test.true c.each.invariant c.in_ok-write_arg.ensures
