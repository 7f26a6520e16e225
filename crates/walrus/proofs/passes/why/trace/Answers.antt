use Rattle.std.proofs.Common.{◌≡◌, List, ◌++◌, map, ap, ◌∙◌}
use Rattle.std.proofs.lemmas.Result.{err_from_is_err_and}
use Rattle.walrus_code.specs.Code.{item_of}
use Rattle.walrus_code.specs.declared.items.ItemId.{ItemId}
use Rattle.walrus_base.specs.Operators.{Item}
use Rattle.walrus_contents.specs.Named.{root_names}
use Rattle.walrus_contents.specs.View.{lent, parts_view}
use Rattle.walrus_contents.proofs.NamedLemmas.{refusal_map}
use Rattle.walrus.specs.Asked.{asked_items, searched_view}
use Rattle.walrus.specs.Marked.{ReachesUnsound}
use Rattle.walrus.specs.Used.{NamesDead}
use Rattle.walrus.proofs.TracedSearch.{none_taken_yet, root_dead, roots_follow, roots_traced}
use Rattle.walrus.proofs.passes.why.trace.Goals as goal

pub returns-in_err-enter_all : goal.returns-in_err-enter_all
returns-in_err-enter_all c =
    let p = err_from_is_err_and c.from_residual-in_err-enter_all.result c.from_residual-in_err-enter_all.ensures.1 in
    let held = lent c.args.searched.parts in
    let own = root_names held in
    let asked = asked_items c.args.searched.asked.now in
    let named = map item_of c.as_slice.result.now in
    let roots : named ≡ own ++ asked =
    ap (λ (ids : List ItemId). map item_of ids) c.as_slice.ensures.value ∙ c.in_ok-push_asked.ensures
    ∙ ap (λ (xs : List Item). xs ++ asked) (c.in_ok-push_root_names.ensures ∙ ap (λ (ids : List ItemId). map item_of ids ++ own) c.new-roots.ensures.items) in
    rw (p.1, p.2) (refusal_map (NamesDead (parts_view c.args.searched.parts) named) (ReachesUnsound (searched_view c.args.searched)) (root_dead held asked named roots)
    c.in_err-enter_all.field-0.0 c.in_err-enter_all.ensures)

pub follow-requires-clause-start : goal.follow-requires-clause-start
follow-requires-clause-start c =
    let held = lent c.args.searched.parts in
    let own = root_names held in
    let asked = asked_items c.args.searched.asked.now in
    let named = map item_of c.as_slice.result.now in
    let roots : named ≡ own ++ asked =
    ap (λ (ids : List ItemId). map item_of ids) c.as_slice.ensures.value ∙ c.in_ok-push_asked.ensures
    ∙ ap (λ (xs : List Item). xs ++ asked) (c.in_ok-push_root_names.ensures ∙ ap (λ (ids : List ItemId). map item_of ids ++ own) c.new-roots.ensures.items) in
    none_taken_yet held asked named roots _ c.enter_all.new.traced c.in_ok-none.ensures.nothing c.in_ok-enter_all.ensures

pub follow-requires-clause-follows : goal.follow-requires-clause-follows
follow-requires-clause-follows c =
    let held = lent c.args.searched.parts in
    let own = root_names held in
    let asked = asked_items c.args.searched.asked.now in
    let named = map item_of c.as_slice.result.now in
    let roots : named ≡ own ++ asked =
    ap (λ (ids : List ItemId). map item_of ids) c.as_slice.ensures.value ∙ c.in_ok-push_asked.ensures
    ∙ ap (λ (xs : List Item). xs ++ asked) (c.in_ok-push_root_names.ensures ∙ ap (λ (ids : List ItemId). map item_of ids ++ own) c.new-roots.ensures.items) in
    roots_follow held asked named roots _ c.enter_all.new.traced c.in_ok-none.ensures.nothing c.in_ok-enter_all.ensures

pub follow-requires-clause-traces : goal.follow-requires-clause-traces
follow-requires-clause-traces c =
    let held = lent c.args.searched.parts in
    let own = root_names held in
    let asked = asked_items c.args.searched.asked.now in
    let named = map item_of c.as_slice.result.now in
    let roots : named ≡ own ++ asked =
    ap (λ (ids : List ItemId). map item_of ids) c.as_slice.ensures.value ∙ c.in_ok-push_asked.ensures
    ∙ ap (λ (xs : List Item). xs ++ asked) (c.in_ok-push_root_names.ensures ∙ ap (λ (ids : List ItemId). map item_of ids ++ own) c.new-roots.ensures.items) in
    roots_traced held asked named roots _ c.enter_all.new.traced c.in_ok-none.ensures.nothing c.in_ok-enter_all.ensures c.new.ensures.items
