use Rattle.wasm_entries.specs.Spelling.{ConstStands}
use Rattle.walrus_base.specs.ConstOps.{const_op}
use Rattle.walrus_code.specs.Indices.{index_of}
use Rattle.walrus_code.specs.Results.{args_are_exact}
use Rattle.walrus_model.specs.Constants.{const_of}
use Rattle.walrus_constants.specs.Named.{named_const_op}
use Rattle.walrus_groups.proofs.Loops.{written_next}
use Rattle.walrus_constants.proofs.write.raw_each.Goals as goal

pub loop-op-preserved : goal.loop-op-preserved
loop-op-preserved c = written_next (named_const_op (index_of c.args.indices.now)) (λ o. args_are_exact o.args) ConstStands const_op const_of c.args.ops.now c.loop-op.op-index _ c.loop-op.raw.items c.push.new.self.items _ c.loop-op-test.true c.in_ok-push.ensures.items c.in_ok-raw_op.ensures.indexed c.in_ok-raw_op.ensures.spelled c.loop-op.invariant
