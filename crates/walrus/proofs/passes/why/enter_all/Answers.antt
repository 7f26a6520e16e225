use Rattle.std.proofs.Common.{◌+◌, List, map, subst, take, take_all}
use Rattle.std.proofs.lemmas.List.{map_more}
use Rattle.std.proofs.lemmas.Result.{err_from_is_err_and}
use Rattle.walrus_code.specs.Code.{item_of}
use Rattle.walrus_code.specs.declared.items.ItemId.{ItemId}
use Rattle.walrus_contents.specs.View.{parts_view}
use Rattle.walrus_contents.proofs.NamedLemmas.{refusal_map}
use Rattle.walrus.specs.Traced.{Names}
use Rattle.walrus.specs.Used.{NamesDead}
use Rattle.walrus.proofs.Followed.{dead_among}
use Rattle.walrus.proofs.Tracing.{names_more, names_none}
use Rattle.walrus.proofs.passes.why.enter_all.Goals as goal

pub loop-item-init : goal.loop-item-init
loop-item-init c = names_none (parts_view c.args.parts) c.args.by c.args.traced.now c.requires

pub returns-in_err-enter : goal.returns-in_err-enter
returns-in_err-enter c =
    let p = err_from_is_err_and c.from_residual.result c.from_residual.ensures.1 in
    let v = parts_view c.args.parts in
    let all = c.args.items.now in
    rw (p.1, p.2) (refusal_map _ (NamesDead v (map item_of all)) (dead_among v all c.loop-item.item-index _ c.loop-item-test.true) c.in_err-enter.field-0.0 c.in_err-enter.ensures)

pub enter-requires : goal.enter-requires
enter-requires c = c.loop-item.invariant.enters.kept

pub loop-item-preserved : goal.loop-item-preserved
loop-item-preserved c =
    let v = parts_view c.args.parts in
    let all = c.args.items.now in
    let i = c.loop-item.item-index in
    names_more v c.args.by (map item_of (take i all)) _ (map item_of (take (i + 1) all)) c.args.traced.now c.loop-item.traced c.enter.new.traced
    (map_more item_of all i _ c.loop-item-test.true) c.loop-item.invariant c.in_ok-enter.ensures

pub returns : goal.returns
returns c =
    subst (λ (xs : List ItemId). Names (parts_view c.args.parts) c.args.by (map item_of xs) c.args.traced.now c.loop-item.traced) (take_all c.loop-item.item-index c.args.items.now c.loop-item-test.false) c.loop-item.invariant
