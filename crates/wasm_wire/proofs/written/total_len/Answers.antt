use Rattle.std.proofs.Common.{subst, take_all}
use Rattle.std.specs.Prelude.{sum}
use Rattle.wasm_wire.specs.ModuleWriting.{IsUnlessHuge}
use Rattle.wasm_wire.proofs.ModuleMeasured.{sum_more}
use Rattle.wasm_wire.proofs.written.total_len.Goals as goal

pub lengths-preserved : goal.lengths-preserved
lengths-preserved c = sum_more _ c.lengths.total _ c.args.lengths.now c.lengths.len-index c.lengths-test.true c.lengths.invariant c.saturating_add-total.ensures

pub returns : goal.returns
returns c = subst (λ l. IsUnlessHuge c.lengths.total (sum l)) (take_all c.lengths.len-index c.args.lengths.now c.lengths-test.false) c.lengths.invariant
