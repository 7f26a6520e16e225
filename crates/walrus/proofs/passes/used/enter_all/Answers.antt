use Rattle.std.proofs.Common.{◌+◌, List, map, subst, take, take_all}
use Rattle.std.proofs.lemmas.List.{map_more}
use Rattle.std.proofs.lemmas.Result.{err_from_is_err_and}
use Rattle.walrus_code.specs.Code.{item_of}
use Rattle.walrus_code.specs.declared.items.ItemId.{ItemId}
use Rattle.walrus_contents.specs.View.{parts_view}
use Rattle.walrus.specs.Used.{Enters, NamesDead}
use Rattle.walrus.proofs.Entered.{enters_more, enters_none}
use Rattle.walrus.proofs.Followed.{dead_among, dead_map}
use Rattle.walrus.proofs.passes.used.enter_all.Goals as goal

pub loop-item-init : goal.loop-item-init
loop-item-init c = enters_none (parts_view c.args.parts) c.args.list.now c.requires

pub returns-in_err-enter : goal.returns-in_err-enter
returns-in_err-enter c =
    let p = err_from_is_err_and c.from_residual.result c.from_residual.ensures.1 in
    let v = parts_view c.args.parts in
    let all = c.args.items.now in
    rw (p.1, p.2) (dead_map _ (NamesDead v (map item_of all)) (dead_among v all c.loop-item.item-index _ c.loop-item-test.true) c.in_err-enter.field-0.0 c.in_err-enter.ensures)

pub enter-requires : goal.enter-requires
enter-requires c = c.loop-item.invariant.kept

pub loop-item-preserved : goal.loop-item-preserved
loop-item-preserved c =
    let v = parts_view c.args.parts in
    let all = c.args.items.now in
    let i = c.loop-item.item-index in
    enters_more v (map item_of (take i all)) _ (map item_of (take (i + 1) all)) c.args.list.now c.loop-item.list c.enter.new.list
    (map_more item_of all i _ c.loop-item-test.true) c.loop-item.invariant c.in_ok-enter.ensures

pub returns : goal.returns
returns c =
    subst (λ (xs : List ItemId). Enters (parts_view c.args.parts) (map item_of xs) c.args.list.now c.loop-item.list) (take_all c.loop-item.item-index c.args.items.now c.loop-item-test.false) c.loop-item.invariant
