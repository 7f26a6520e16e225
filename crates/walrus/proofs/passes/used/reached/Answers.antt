use Rattle.std.proofs.Common.{◌≡◌, List, [], ◌++◌, ap, append_assoc, map, refl, ◌∙◌, subst}
use Rattle.std.proofs.lemmas.Result.{err_from_is_err_and}
use Rattle.walrus_code.specs.Code.{item_of}
use Rattle.walrus_code.specs.declared.items.ItemId.{ItemId}
use Rattle.walrus_base.specs.Operators.{Item}
use Rattle.walrus.specs.Asked.{asked_items, searched_view}
use Rattle.walrus.specs.Marked.{ReachesUnsound}
use Rattle.walrus_contents.specs.Named.{export_names, other_roots, root_names}
use Rattle.walrus_contents.specs.View.{lent, parts_view}
use Rattle.walrus.specs.Used.{Enters, NamesDead}
use Rattle.walrus.proofs.Entered.{enters_more}
use Rattle.walrus.proofs.Followed.{dead_first, dead_second, follows_init, none_taken, refused_dead, unsound_root}
use Rattle.walrus.proofs.ReachedLemmas.{roots_are}
use Rattle.walrus.proofs.SameSearch.{enters_on, names_dead_on}
use Rattle.walrus.proofs.passes.used.reached.Goals as goal

pub enter_exports-requires : goal.enter_exports-requires
enter_exports-requires c = c.in_ok-list.ensures.kept

pub returns-in_err-enter_exports : goal.returns-in_err-enter_exports
returns-in_err-enter_exports c =
    let p = err_from_is_err_and c.from_residual-in_err-enter_exports.result c.from_residual-in_err-enter_exports.ensures.1 in
    let held = lent c.args.searched.parts in
    let v = parts_view c.args.searched.parts in
    let w = searched_view c.args.searched in
    let named = export_names held.exports in
    let own = root_names held in
    let asked = asked_items c.args.searched.asked.now in
    rw (p.1, p.2) (refused_dead (NamesDead v named) (ReachesUnsound w)
    (λ dead. unsound_root w (own ++ asked) (roots_are held asked) (names_dead_on v [] asked (own ++ asked) (dead_first v own asked (own ++ asked) refl (dead_first v named (other_roots held) own refl dead))))
    c.in_err-enter_exports.field-0.0 c.in_err-enter_exports.ensures)

pub enter_all-requires : goal.enter_all-requires
enter_all-requires c = c.in_ok-enter_exports.ensures.kept

pub returns-in_err-enter_all : goal.returns-in_err-enter_all
returns-in_err-enter_all c =
    let p = err_from_is_err_and c.from_residual-in_err-enter_all.result c.from_residual-in_err-enter_all.ensures.1 in
    let held = lent c.args.searched.parts in
    let v = parts_view c.args.searched.parts in
    let w = searched_view c.args.searched in
    let named = export_names held.exports in
    let others = other_roots held in
    let own = root_names held in
    let asked = asked_items c.args.searched.asked.now in
    let roots : map item_of c.as_slice.result.now ≡ others ++ asked =
    ap (λ (ids : List ItemId). map item_of ids) c.as_slice.ensures.value ∙ c.in_ok-push_asked.ensures
    ∙ ap (λ (xs : List Item). xs ++ asked) (c.in_ok-push_other_roots.ensures ∙ ap (λ (ids : List ItemId). map item_of ids ++ others) c.new-roots.ensures.items) in
    rw (p.1, p.2) (refused_dead (NamesDead v (map item_of c.as_slice.result.now)) (ReachesUnsound w)
    (λ dead. unsound_root w (own ++ asked) (roots_are held asked) (names_dead_on v [] asked (own ++ asked)
    (dead_second v named (others ++ asked) (own ++ asked) (append_assoc named others asked) (subst (λ (xs : List Item). NamesDead v xs) roots dead))))
    c.in_err-enter_all.field-0.0 c.in_err-enter_all.ensures)

pub follow-requires-clause-start : goal.follow-requires-clause-start
follow-requires-clause-start c = c.in_ok-enter_all.ensures.taken ∙ c.in_ok-enter_exports.ensures.taken ∙ none_taken c.in_ok-list.list c.in_ok-list.ensures.nothing

pub follow-requires-clause-follows : goal.follow-requires-clause-follows
follow-requires-clause-follows c =
    let held = lent c.args.searched.parts in
    let v = parts_view c.args.searched.parts in
    let w = searched_view c.args.searched in
    let named = export_names held.exports in
    let others = other_roots held in
    let own = root_names held in
    let asked = asked_items c.args.searched.asked.now in
    let none = c.in_ok-list.list in
    let first = c.enter_exports.new.list in
    let list = c.enter_all.new.list in
    let roots : map item_of c.as_slice.result.now ≡ others ++ asked =
    ap (λ (ids : List ItemId). map item_of ids) c.as_slice.ensures.value ∙ c.in_ok-push_asked.ensures
    ∙ ap (λ (xs : List Item). xs ++ asked) (c.in_ok-push_other_roots.ensures ∙ ap (λ (ids : List ItemId). map item_of ids ++ others) c.new-roots.ensures.items) in
    let rest : Enters v (others ++ asked) first list = subst (λ (xs : List Item). Enters v xs first list) roots c.in_ok-enter_all.ensures in
    let entered = enters_on v [] asked (own ++ asked) none list (enters_more v named (others ++ asked) (own ++ asked) none first list (append_assoc named others asked) c.in_ok-enter_exports.ensures rest) in
    follows_init w none list (own ++ asked) c.in_ok-list.ensures.nothing (entered.taken ∙ none_taken none c.in_ok-list.ensures.nothing) entered (roots_are held asked)
