use Rattle.wasm_entries.specs.Spelling.{ConstStands}
use Rattle.walrus_base.specs.ConstOps.{const_op}
use Rattle.walrus_code.specs.Indices.{index_of}
use Rattle.walrus_code.specs.Results.{args_are_exact}
use Rattle.walrus_model.specs.Constants.{const_of}
use Rattle.walrus_constants.specs.Named.{named_const_op}
use Rattle.walrus_groups.proofs.Loops.{WrittenSoFar}
use Rattle.walrus_constants.proofs.write.raw_each.Given as goal

abbrev pub invariant-loop-op : goal.invariant-loop-op
invariant-loop-op l = WrittenSoFar (named_const_op (index_of l.indices)) (λ o. args_are_exact o.args) ConstStands const_op const_of l.ops l.op-index l.raw.items
