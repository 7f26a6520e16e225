use Rattle.walrus_base.specs.Operators.{Tags}
use Rattle.walrus_items.specs.Tags.{tags, tag_entries_left}
use Rattle.walrus_contents.specs.There.{IsWhole}
use Rattle.walrus_contents.specs.View.{parts_view}
use Rattle.walrus_model.proofs.Walked.{Walked}
use Rattle.walrus_contents.proofs.live.check_tags.Given as goal

-- the tags that aren't left are whole
abbrev pub invariant-loop-id : goal.invariant-loop-id
invariant-loop-id l =
    (goal.iterator-loop-id).can_next l.id-iterator
    × (goal.iterator-loop-id).is_finite l.id-iterator
    × Walked (λ i. IsWhole (parts_view l.parts) (Tags, i)) (tags l.parts.tags.now) (tag_entries_left l.id-iterator)
