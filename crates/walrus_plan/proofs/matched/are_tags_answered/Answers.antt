use Rattle.std.proofs.Common.{ap, sym, ◌∙◌, refl}
use Rattle.walrus_base.specs.Operators.{Tags}
use Rattle.walrus_items.specs.Tags.{tags, tag_entries_left, tag_value}
use Rattle.walrus_model.specs.WellMade.{origin_import}
use Rattle.walrus_contents.specs.View as seen
use Rattle.walrus_contents.specs.View.{parts_view}
use Rattle.walrus_model.proofs.Walked.{walk_begins}
use Rattle.walrus_plan.proofs.Matching.{AnsweredAt, all_answered, answers_go, tag_says, lacks_here}
use Rattle.walrus_plan.proofs.matched.are_tags_answered.Goals as goal

pub loop-id-init : goal.loop-id-init
loop-id-init c =
    let p = c.args.parts in
    (tt, tt, walk_begins (AnsweredAt (parts_view p) Tags) (tags p.tags.now) _ (ap tag_entries_left c.into_iter-id-iterator.ensures.into_iter_gives ∙ c.iter_entries-id-items.ensures))

pub returns-then-not-is_answered-clause-lacks : goal.returns-then-not-is_answered-clause-lacks
returns-then-not-is_answered-clause-lacks c = λ is.
    let p = c.args.parts in
    lacks_here seen.tag_of (λ x. origin_import x.origin) (parts_view p) Tags (tags p.tags.now) (λ i. refl) _ _ _ c.in-Some.ensures.steps c.loop-id.invariant.2 _ (tag_says (tag_value c.in-Some.tag.now) ∙ sym c.tag_import.ensures) (c.is_answered.ensures.not c.if-not-is_answered.true)

pub loop-id-preserved : goal.loop-id-preserved
loop-id-preserved c =
    let p = c.args.parts in
    (tt, tt, answers_go seen.tag_of (λ x. origin_import x.origin) (parts_view p) Tags (tags p.tags.now) (λ i. refl) _ _ _ c.in-Some.ensures.steps c.loop-id.invariant.2 _ (tag_says (tag_value c.in-Some.tag.now) ∙ sym c.tag_import.ensures) (c.is_answered.ensures.answered c.if-not-is_answered.false))

pub returns-clause-answered : goal.returns-clause-answered
returns-clause-answered c = λ is.
    let p = c.args.parts in
    all_answered seen.tag_of (λ x. origin_import x.origin) (parts_view p) Tags (tags p.tags.now) (λ i. refl) _ c.in-None.ensures.steps.0 c.loop-id.invariant.2
