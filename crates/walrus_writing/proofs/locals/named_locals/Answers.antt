use Rattle.std.proofs.Common.{ap, ◌+◌}
use Rattle.walrus_base.specs.Locals.{locals}
use Rattle.walrus_writing.proofs.UsedNames.{names_turn}
use Rattle.walrus_writing.proofs.locals.named_locals.Goals as goal

pub locals-preserved : goal.locals-preserved
locals-preserved c = record {
  counted = ap (λ n. n + 1) c.locals.invariant.counted;
  named = names_turn (locals c.args.all.now) c.args.order.now c.args.used.now c.locals.id-index c.locals.index _ _ _ _ _ c.locals-test.true c.requires.as_many c.locals.invariant.counted c.in_ok-push_name.ensures.value c.locals.invariant.named;
}
