use Rattle.std.proofs.Common.{◌≡◌, ℕ, ◌+◌, List, [], ◌++◌, map, refl, ap, ◌∙◌, arith}
use Rattle.std.proofs.lemmas.Result.{err_from_is_err_and}
use Rattle.walrus_code.specs.Code.{item_of}
use Rattle.walrus_code.specs.declared.items.ItemId.{ItemId}
use Rattle.walrus_contents.specs.There.{IsSound}
use Rattle.walrus_contents.specs.View.{lent, parts_view}
use Rattle.walrus_contents.proofs.NamedLemmas.{refusal_map}
use Rattle.walrus_theorem.proofs.SameItems.{live_back}
use Rattle.walrus.specs.Asked.{asked_items, searched_view}
use Rattle.walrus.specs.Marked.{ReachesUnsound}
use Rattle.walrus.specs.Used.{NamesDead}
use Rattle.walrus.proofs.Followed.{keeps_taken, taken_in}
use Rattle.walrus.proofs.SameSearch.{keeps_back}
use Rattle.walrus.proofs.TracedSearch.{name_dead, not_sound, traced_all, turn_follows, turn_traced}
use Rattle.walrus.proofs.passes.why.follow.Goals as goal
use Rattle.walrus.proofs.passes.why.follow.Goals.{else-loop-turn-test, then-loop-turn-test+in_default}

pub push_item_names-requires : goal.push_item_names-requires
push_item_names-requires c =
    let x = item_of c.in-Some.item in
    live_back (parts_view c.args.searched.parts) [] (asked_items c.args.searched.asked.now) x
    (c.loop-turn.invariant.0.kept.live x (taken_in x c.loop-turn.traced.list c.take.new.self c.in-Some.ensures))

pub returns-in_err-push_item_names : goal.returns-in_err-push_item_names
returns-in_err-push_item_names c =
    let p = err_from_is_err_and c.from_residual.result c.from_residual.ensures.1 in
    let x = item_of c.in-Some.item in
    rw (p.1, p.2) (refusal_map (IsSound (parts_view c.args.searched.parts) x → ⊥) (ReachesUnsound (searched_view c.args.searched))
    (not_sound (lent c.args.searched.parts) (asked_items c.args.searched.asked.now) x c.loop-turn.traced.list c.loop-turn.invariant.0 c.take.new.self c.in-Some.ensures)
    c.in_err-push_item_names.field-0.0 c.in_err-push_item_names.ensures)

pub enter_all-requires : goal.enter_all-requires
enter_all-requires c =
    keeps_back (parts_view c.args.searched.parts) [] (asked_items c.args.searched.asked.now) c.take.new.self
    (keeps_taken (item_of c.in-Some.item) c.loop-turn.traced.list c.take.new.self c.in-Some.ensures (searched_view c.args.searched) c.loop-turn.invariant.0.kept)

pub returns-in_err-enter_all : goal.returns-in_err-enter_all
returns-in_err-enter_all c =
    let p = err_from_is_err_and c.from_residual-in_err-enter_all.result c.from_residual-in_err-enter_all.ensures.1 in
    let put = c.in_ok-push_item_names.ensures.1 in
    let named = map item_of c.as_slice.result.now in
    let names : named ≡ put.added = ap (λ (ids : List ItemId). map item_of ids) c.as_slice.ensures.value ∙ put.behind ∙ ap (λ (ids : List ItemId). map item_of ids ++ put.added) c.clear.ensures.items in
    rw (p.1, p.2) (refusal_map (NamesDead (parts_view c.args.searched.parts) named) (ReachesUnsound (searched_view c.args.searched))
    (name_dead (lent c.args.searched.parts) (asked_items c.args.searched.asked.now) (item_of c.in-Some.item) c.loop-turn.traced.list c.loop-turn.invariant.0 c.take.new.self c.in-Some.ensures named put.added names put.are)
    c.in_err-enter_all.field-0.0 c.in_err-enter_all.ensures)

pub loop-turn-preserved : goal.loop-turn-preserved
loop-turn-preserved c =
    let held = lent c.args.searched.parts in
    let asked = asked_items c.args.searched.asked.now in
    let x = item_of c.in-Some.item in
    let old = c.loop-turn.traced.list in
    let takes = c.in-Some.ensures in
    let inv = c.loop-turn.invariant in
    let put = c.in_ok-push_item_names.ensures.1 in
    let named = map item_of c.as_slice.result.now in
    let names : named ≡ put.added = ap (λ (ids : List ItemId). map item_of ids) c.as_slice.ensures.value ∙ put.behind ∙ ap (λ (ids : List ItemId). map item_of ids ++ put.added) c.clear.ensures.items in
    let entered = c.in_ok-enter_all.ensures in
    let new = c.enter_all.new.traced in
    let counted : new.list.taken ≡ c.loop-turn.turn + 1 = entered.enters.taken ∙ takes.taken ∙ ap (λ (n : ℕ). n + 1) inv.1 in (
      turn_follows held asked x old inv.0 c.take.new.self takes named put.added names put.are c.loop-turn.turn inv.1 _ new refl entered c.in_ok-push_item_names.ensures.0,
      counted,
      turn_traced held asked x old inv.0 c.take.new.self takes named put.added names put.are c.loop-turn.turn inv.1 _ new refl entered inv.2,
    )

pub returns : goal.returns
returns c =
    let held = lent c.args.searched.parts in
    let asked = asked_items c.args.searched.asked.now in
    let traced = c.loop-turn.traced in
    let inv = c.loop-turn.invariant in
    elim c.loop-turn-test.branch [
      | else-loop-turn-test t ↦ rw (t.traced-is) (traced_all held asked traced inv.0 (omega (arith, inv.1, traced.list.entered.ok.1, traced.list.entered.small)) inv.2)
      | then-loop-turn-test+in_default t ↦ rw (t.traced-is, t.in_default.ensures.1) (traced_all held asked traced inv.0 (omega (arith, t.in_default.ensures.0)) inv.2)
    ]
