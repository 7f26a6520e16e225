use Rattle.walrus_bodies.proofs.RangeLemmas.{one_more}
use Rattle.walrus_bodies.proofs.function.ids_from.Goals as goal

pub locals-preserved : goal.locals-preserved
locals-preserved c = one_more c.args.first c.locals.offset _ _ _ c.in_ok-push.ensures.items c.locals.invariant c.at.ensures
