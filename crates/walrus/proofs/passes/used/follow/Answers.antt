use Rattle.std.proofs.Common.{◌≡◌, ◌⊎◌, ℕ, ◌+◌, [], ap, ◌∙◌, arith}
use Rattle.std.proofs.lemmas.Result.{err_from_is_err_and}
use Rattle.walrus_code.specs.Code.{item_of}
use Rattle.walrus.specs.Asked.{asked_items, searched_view}
use Rattle.walrus.specs.Used.{OneDead}
use Rattle.walrus.specs.Marked.{ReachesUnsound}
use Rattle.walrus_contents.specs.Named.{NamesItself}
use Rattle.walrus_contents.specs.View.{parts_view}
use Rattle.walrus_contents.specs.There.{IsSound}
use Rattle.walrus.proofs.Followed.{follows_more, found_all, keeps_taken, taken_in, unsound_by}
use Rattle.walrus_contents.proofs.NamedLemmas.{refusal_map}
use Rattle.walrus_theorem.proofs.SameItems.{live_back}
use Rattle.walrus.proofs.SameSearch.{enters_all_on, keeps_back, sound_on, unfit_on}
use Rattle.walrus.proofs.passes.used.follow.Goals as goal
use Rattle.walrus.proofs.passes.used.follow.Goals.{else-loop-turn-test, then-loop-turn-test+in_default}

pub returns-in_err-follow_item : goal.returns-in_err-follow_item
returns-in_err-follow_item c =
    let p = err_from_is_err_and c.from_residual.result c.from_residual.ensures.1 in
    let v = parts_view c.args.searched.parts in
    let w = searched_view c.args.searched in
    let x = item_of c.in-Some.item in
    rw (p.1, p.2) (refusal_map ((IsSound v x → ⊥) ⊎ OneDead v (NamesItself v x)) (ReachesUnsound w)
    (λ unfit. unsound_by w c.loop-turn.list c.loop-turn.invariant.0 x c.take.new.self c.in-Some.ensures (unfit_on v [] (asked_items c.args.searched.asked.now) x unfit))
    c.in_err-follow_item.field-0.0 c.in_err-follow_item.ensures)

pub loop-turn-preserved : goal.loop-turn-preserved
loop-turn-preserved c =
    let v = parts_view c.args.searched.parts in
    let w = searched_view c.args.searched in
    let asked = asked_items c.args.searched.asked.now in
    let x = item_of c.in-Some.item in
    let old = c.loop-turn.list in
    let takes = c.in-Some.ensures in
    let entered = c.in_ok-follow_item.ensures in
    let counted : c.follow_item.new.list.taken ≡ c.loop-turn._turn + 1 = entered.1.enters.taken ∙ takes.taken ∙ ap (λ (n : ℕ). n + 1) c.loop-turn.invariant.1 in (
      follows_more w old c.loop-turn.invariant.0 x c.take.new.self takes c.follow_item.new.list
          (sound_on v [] asked x entered.0) (enters_all_on v [] asked x c.take.new.self c.follow_item.new.list entered.1),
      counted,
    )

pub returns : goal.returns
returns c =
    let w = searched_view c.args.searched in
    let list = c.loop-turn.list in
    elim c.loop-turn-test.branch [
      | else-loop-turn-test t ↦ rw (t.list-is) (found_all w list c.loop-turn.invariant.0 (omega (arith, c.loop-turn.invariant.1, list.entered.ok.1, list.entered.small)))
      | then-loop-turn-test+in_default t ↦ rw (t.list-is, t.in_default.ensures.1) (found_all w list c.loop-turn.invariant.0 (omega (arith, t.in_default.ensures.0)))
    ]

pub follow_item-requires-clause-live : goal.follow_item-requires-clause-live
follow_item-requires-clause-live c =
    let x = item_of c.in-Some.item in
    live_back (parts_view c.args.searched.parts) [] (asked_items c.args.searched.asked.now) x
    (c.loop-turn.invariant.0.kept.live x (taken_in x c.loop-turn.list c.take.new.self c.in-Some.ensures))

pub follow_item-requires-clause-kept : goal.follow_item-requires-clause-kept
follow_item-requires-clause-kept c =
    keeps_back (parts_view c.args.searched.parts) [] (asked_items c.args.searched.asked.now) c.take.new.self
    (keeps_taken (item_of c.in-Some.item) c.loop-turn.list c.take.new.self c.in-Some.ensures (searched_view c.args.searched) c.loop-turn.invariant.0.kept)
