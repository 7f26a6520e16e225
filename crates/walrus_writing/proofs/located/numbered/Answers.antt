use Rattle.std.proofs.Common.{ℕ, arith}
use Rattle.walrus_base.specs.declared.id.Id.{Id}
use Rattle.walrus_base.specs.declared.keys.FunctionKey.{FunctionKey}
use Rattle.walrus_writing.proofs.LocatedLoops.{ends, turn}
use Rattle.walrus_writing.proofs.PlacedInTurn.{places_end, places_step}
use Rattle.walrus_writing.proofs.located.numbered.Goals as goal
use Rattle.walrus_constants.proofs.Listed.{mapped_push as seen_push}

pub order-preserved : goal.order-preserved
order-preserved c = turn _ _ _ _ _ _ (places_step c.args.order.now c.order.at c.order-test.true)
    (seen_push (λ (t : Id FunctionKey × ℕ). t.1) c.order.turns.items _ _ c.in_ok-push.ensures.items) c.order.invariant

pub returns-clause-value : goal.returns-clause-value
returns-clause-value c = ends _ _ _ (places_end c.args.order.now c.order.at (omega (arith, c.order-test.false))) c.order.invariant
