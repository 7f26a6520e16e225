use Rattle.std.proofs.Common.{refl}
use Rattle.walrus_base.specs.Id.{place}
use Rattle.walrus_code.specs.Code.{item_of}
use Rattle.walrus_base.specs.Operators.{Functions}
use Rattle.walrus_contents.proofs.NamedLemmas.{map_step}
use Rattle.walrus.proofs.passes.asked.push_functions.Goals as goal

pub loop-id-preserved : goal.loop-id-preserved
loop-id-preserved c =
    rw (c.in_ok-push.ensures.items) (map_step place item_of (λ i. (Functions, i)) c.loop-id.to.items _ c.args.ids.now c.loop-id.id-index _ _ c.loop-id-test.true c.loop-id.invariant refl)
