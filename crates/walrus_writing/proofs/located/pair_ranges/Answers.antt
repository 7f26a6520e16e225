use Rattle.std.proofs.Common.{◌+◌, ap, arith}
use Rattle.walrus_base.specs.Id.{place}
use Rattle.walrus_writing.specs.Located.{ends_of}
use Rattle.walrus_writing.proofs.LocatedLoops.{ends, pairs_end, pairs_step, turn}
use Rattle.walrus_writing.proofs.located.pair_ranges.Goals as goal
use Rattle.walrus_constants.proofs.Listed.{mapped_push as seen_push}

pub order-preserved : goal.order-preserved
order-preserved c = record {
  counted = ap (λ n. n + 1) c.order.invariant.counted;
  listed = turn _ _ _ _ _ _
      (pairs_step place ends_of c.args.order.now c.args.ranges.now c.order.id-index c.order.index _ _ c.order-test.true c.requires.as_many c.order.invariant.counted)
      (seen_push (λ e. (place e.0, e.1)) c.order.pairs.items _ _ c.in_ok-push.ensures.items) c.order.invariant.listed;
}

pub returns-clause-value : goal.returns-clause-value
returns-clause-value c = ends _ _ _ (pairs_end place ends_of c.args.order.now c.args.ranges.now c.order.id-index (omega (arith, c.order-test.false))) c.order.invariant.listed
