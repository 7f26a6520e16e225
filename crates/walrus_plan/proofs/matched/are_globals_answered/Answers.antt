use Rattle.std.proofs.Common.{ap, sym, ◌∙◌, refl}
use Rattle.walrus_base.specs.Operators.{Globals}
use Rattle.walrus_items.specs.Globals.{globals, global_entries_left, global_value}
use Rattle.walrus_model.specs.WellMade.{origin_import}
use Rattle.walrus_contents.specs.View as seen
use Rattle.walrus_contents.specs.View.{parts_view}
use Rattle.walrus_model.proofs.Walked.{walk_begins}
use Rattle.walrus_plan.proofs.Matching.{AnsweredAt, all_answered, answers_go, global_says, lacks_here}
use Rattle.walrus_plan.proofs.matched.are_globals_answered.Goals as goal

pub loop-id-init : goal.loop-id-init
loop-id-init c =
    let p = c.args.parts in
    (tt, tt, walk_begins (AnsweredAt (parts_view p) Globals) (globals p.globals.now) _ (ap global_entries_left c.into_iter-id-iterator.ensures.into_iter_gives ∙ c.iter_entries-id-items.ensures))

pub returns-then-not-is_answered-clause-lacks : goal.returns-then-not-is_answered-clause-lacks
returns-then-not-is_answered-clause-lacks c = λ is.
    let p = c.args.parts in
    lacks_here seen.global_of (λ x. origin_import x.origin) (parts_view p) Globals (globals p.globals.now) (λ i. refl) _ _ _ c.in-Some.ensures.steps c.loop-id.invariant.2 _ (global_says (global_value c.in-Some.global.now) ∙ sym c.global_import.ensures) (c.is_answered.ensures.not c.if-not-is_answered.true)

pub loop-id-preserved : goal.loop-id-preserved
loop-id-preserved c =
    let p = c.args.parts in
    (tt, tt, answers_go seen.global_of (λ x. origin_import x.origin) (parts_view p) Globals (globals p.globals.now) (λ i. refl) _ _ _ c.in-Some.ensures.steps c.loop-id.invariant.2 _ (global_says (global_value c.in-Some.global.now) ∙ sym c.global_import.ensures) (c.is_answered.ensures.answered c.if-not-is_answered.false))

pub returns-clause-answered : goal.returns-clause-answered
returns-clause-answered c = λ is.
    let p = c.args.parts in
    all_answered seen.global_of (λ x. origin_import x.origin) (parts_view p) Globals (globals p.globals.now) (λ i. refl) _ c.in-None.ensures.steps.0 c.loop-id.invariant.2
