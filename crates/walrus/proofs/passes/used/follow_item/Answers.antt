use Rattle.std.proofs.Common.{◌≡◌, List, ◌++◌, map, ap, ◌∙◌}
use Rattle.walrus_code.specs.Code.{item_of}
use Rattle.walrus_code.specs.declared.items.ItemId.{ItemId}
use Rattle.walrus_contents.specs.View.{parts_view}
use Rattle.walrus.proofs.Followed.{item_entered}
use Rattle.walrus.proofs.passes.used.follow_item.Goals as goal

pub returns : goal.returns
returns c =
    let put = c.in_ok-push_item_names.ensures in
    let names : map item_of c.as_slice.result.now ≡ put.1.added = ap (λ (ids : List ItemId). map item_of ids) c.as_slice.ensures.value ∙ put.1.behind ∙ ap (λ (ids : List ItemId). map item_of ids ++ put.1.added) c.clear.ensures.items in
    item_entered (parts_view c.args.parts) (item_of c.args.item) (map item_of c.as_slice.result.now) put.1.added c.args.list.now c.enter_all.new.list names put.1.are put.0 c.enter_all.result c.enter_all.ensures
