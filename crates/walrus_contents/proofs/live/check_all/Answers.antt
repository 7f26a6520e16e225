use Rattle.std.proofs.Common.{List, map, subst, take_all}
use Rattle.std.proofs.lemmas.Result.{err_from_is_err_and}
use Rattle.walrus_code.specs.Code.{item_of}
use Rattle.walrus_code.specs.declared.items.ItemId.{ItemId}
use Rattle.walrus_contents.specs.There.{AreLive, OneIsDead}
use Rattle.walrus_contents.specs.View.{parts_view}
use Rattle.walrus_contents.proofs.LiveLemmas.{live_more, one_dead}
use Rattle.walrus_contents.proofs.NamedLemmas.{refusal_map}
use Rattle.walrus_contents.proofs.live.check_all.Goals as goal

pub loop-item-preserved : goal.loop-item-preserved
loop-item-preserved c = live_more (parts_view c.args.parts) c.args.named.now c.loop-item.item-index _ c.loop-item-test.true c.loop-item.invariant c.in_ok-check_one.ensures

pub returns-in_err-check_one : goal.returns-in_err-check_one
returns-in_err-check_one c =
    let p = err_from_is_err_and c.from_residual.result c.from_residual.ensures.1 in
    let v = parts_view c.args.parts in
    rw (p.1, p.2) (refusal_map _ (OneIsDead v (map item_of c.args.named.now)) (one_dead v c.args.named.now c.loop-item.item-index _ c.loop-item-test.true) c.in_err-check_one.field-0.0 c.in_err-check_one.ensures)

pub returns : goal.returns
returns c =
    subst (λ (xs : List ItemId). AreLive (parts_view c.args.parts) (map item_of xs)) (take_all c.loop-item.item-index c.args.named.now c.loop-item-test.false) c.loop-item.invariant
