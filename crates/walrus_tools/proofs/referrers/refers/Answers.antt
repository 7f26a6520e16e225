use Rattle.std.proofs.Common.{◌≡◌, List, ◌++◌, inl, map, refl, sym, ap, ◌∙◌}
use Rattle.std.proofs.lemmas.Result.{err_from_is_err_and}
use Rattle.walrus.specs.Code.Code.{item_of}
use Rattle.walrus.specs.Code.ItemId.{ItemId}
use Rattle.walrus.specs.Contents.View.{parts_view}
use Rattle.walrus.proofs.Contents.Groups.{group_is_written}
use Rattle.walrus_tools.proofs.CallersTurn.{refers_told, unsound_refused, untrue}
use Rattle.walrus_tools.proofs.referrers.refers.Goals as goal

pub returns-then-groups_with : goal.returns-then-groups_with
returns-then-groups_with c = (
  λ h. inl (group_is_written (parts_view c.args.parts) (item_of c.args.item) (item_of c.args.other) (c.groups_with.ensures.0 c.if-groups_with.true)),
  λ h. refl,
)

pub returns-in_err-push_item_names : goal.returns-in_err-push_item_names
returns-in_err-push_item_names c =
    let p = err_from_is_err_and c.from_residual.result c.from_residual.ensures.1 in
    rw (p.1, p.2) (unsound_refused (parts_view c.args.parts) (item_of c.args.item) c.requires _ c.in_err-push_item_names.ensures)

pub returns : goal.returns
returns c =
    let put = c.in_ok-push_item_names.ensures in
    let named : map item_of c.deref.result.now ≡ put.1.added =
    ap (λ (ids : List ItemId). map item_of ids) c.deref.ensures.value ∙ put.1.behind ∙ ap (λ (ids : List ItemId). map item_of ids ++ put.1.added) c.clear.ensures.items in
    refers_told (item_of c.args.other) (parts_view c.args.parts) (item_of c.args.item) c.deref.result.now put.1.added named put.1.are
    (λ member. untrue (sym c.if-groups_with.false ∙ c.groups_with.ensures.1 member)) c.is_among.result c.is_among.ensures
