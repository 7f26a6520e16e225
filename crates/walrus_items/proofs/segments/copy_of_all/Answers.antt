use Rattle.std.proofs.Common.{sym, subst, ◌+◌, take}
use Rattle.std.specs.List.{AllZip}
use Rattle.walrus_base.specs.ConstOps.{SameExpr}
use Rattle.walrus_base.proofs.ZipTurns.{zip_turn}
use Rattle.walrus_items.proofs.segments.copy_of_all.Goals as goal

pub copied-preserved : goal.copied-preserved
copied-preserved c =
    subst (λ all. AllZip SameExpr (take (c.copied.expression-index + 1) c.args.all.now) all) (sym c.in_ok-push.ensures.items)
    (zip_turn SameExpr c.args.all.now c.copied.expression-index _ c.copied.copy.items _ c.copied-test.true c.copied.invariant (subst (λ e. SameExpr e c.in_ok-try_clone.field-0) c.expression-item.is c.in_ok-try_clone.ensures.same))
