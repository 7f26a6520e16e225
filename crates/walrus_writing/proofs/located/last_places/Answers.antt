use Rattle.std.proofs.Common.{arith}
use Rattle.walrus_writing.proofs.LocatedLoops.{ends, lasts_end, lasts_step, turn}
use Rattle.walrus_writing.proofs.located.last_places.Goals as goal

pub sorted-preserved : goal.sorted-preserved
sorted-preserved c = turn _ _ _ _ _ _ (lasts_step c.args.sorted.now c.sorted.index c.sorted-test.true) c.in_ok-push_last.ensures.value c.sorted.invariant

pub returns-clause-value : goal.returns-clause-value
returns-clause-value c = ends _ _ _ (lasts_end c.args.sorted.now c.sorted.index (omega (arith, c.sorted-test.false))) c.sorted.invariant
