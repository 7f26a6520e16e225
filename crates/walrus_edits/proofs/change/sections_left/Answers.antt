use Rattle.std.proofs.Common.{◌∷◌, ◌∙◌, ap}
use Rattle.std.specs.Vec.Iter.{into_iter_items}
use Rattle.walrus_edits.proofs.SectionsLeft.{past_none, past_some}
use Rattle.walrus_edits.proofs.change.sections_left.Goals as goal

pub slots-preserved : goal.slots-preserved
slots-preserved c =
    (tt, tt, past_none _ _ _ _ (c.in-Some.ensures.steps.0 ∙ ap (λ o. o ∷ into_iter_items c.next.new.self) c.in_default.is) c.slots.invariant.2)

pub slots-preserved-in-Continue-branch-2 : goal.slots-preserved-in-Continue-branch-2
slots-preserved-in-Continue-branch-2 c =
    (tt, tt, past_some _ _ _ _ _ _ (c.in-Some.ensures.steps.0 ∙ ap (λ o. o ∷ into_iter_items c.next.new.self) c.in-Some-slot.is) c.in_ok-push.ensures.items c.slots.invariant.2)
