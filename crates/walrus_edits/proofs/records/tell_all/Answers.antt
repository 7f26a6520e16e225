use Rattle.std.proofs.Common.{◌≤◌, [], ◌∷◌, length, arith}
use Rattle.std.specs.Prelude.{Err, Ok}
use Rattle.std.proofs.lemmas.Result.{err_from_is_err_and}
use Rattle.walrus_edits.proofs.TellSteps.{adds_same, flat_single, leaves, tells_all, tells_none, told_through, turn}
use Rattle.walrus_edits.proofs.records.tell_all.Goals as goal

pub items-init : goal.items-init
items-init g c = tells_none c.args.to.now.items

pub items-preserved : goal.items-preserved
items-preserved g c = turn (λ x. g.T.Tells.told x ∷ []) c.args.all.now c.items.item-index c.item-item.result _ _ _ c.items-test.true c.item-item.is c.items.invariant c.in_ok-tell.ensures

pub returns-in_err-tell : goal.returns-in_err-tell
returns-in_err-tell g c =
    let p = err_from_is_err_and c.from_residual.result c.from_residual.ensures.1 in
    let e = c.in_err-tell.field-0.0 in
    let old = c.args.to.now.items in
    let new = c.tell.new.to.items in
    rw (p.1, p.2)
    (adds_same (Unit {0}) (Err e) old new _ _ (flat_single g.T.Tells.told c.args.all.now)
    (leaves (λ x. g.T.Tells.told x ∷ []) (Unit {0}) (Unit {0}) e c.args.all.now c.items.item-index c.item-item.result old c.items.to.items new new c.items-test.true c.item-item.is c.items.invariant c.in_err-tell.ensures))

pub returns : goal.returns
returns g c =
    let xs = c.args.all.now in
    let past : length xs ≤ c.items.item-index = omega arith in
    let old = c.args.to.now.items in
    let now = c.items.to.items in
    adds_same (Unit {0}) (Ok tt) old now _ _ (told_through g.T.Tells.told xs c.items.item-index past) (tells_all old now _ c.items.invariant)
