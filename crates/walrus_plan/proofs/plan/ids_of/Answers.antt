use Rattle.std.proofs.Common.{refl}
use Rattle.walrus_base.specs.Id.{place}
use Rattle.walrus_base.proofs.Rows.{left_turn, left_end}
use Rattle.walrus_plan.proofs.plan.ids_of.Goals as goal

pub loop-id-preserved : goal.loop-id-preserved
loop-id-preserved c =
    rw (c.in_ok-push.ensures.items) (left_turn place (λ s. place s.1) c.loop-id.ids.items _ c.args.sized.now c.loop-id.id-index _ _ c.loop-id-test.true c.loop-id.invariant refl)

pub returns-clause-value : goal.returns-clause-value
returns-clause-value c = left_end (λ s. place s.1) _ c.args.sized.now c.loop-id.id-index _ c.loop-id-test.false c.loop-id.invariant
