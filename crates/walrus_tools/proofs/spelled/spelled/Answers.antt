use Rattle.std.proofs.Common.{◌∙◌, ap, flat_map, map, subst, take_all}
use Rattle.std.proofs.lemmas.Result.{err_from_is_err_and}
use Rattle.walrus.proofs.Base.Lists.{Contains-none}
use Rattle.walrus_tools.specs.Spelled.{NoneLong}
use Rattle.walrus_tools.proofs.Spellings.{bytes_more, none_more, one_long}
use Rattle.walrus_tools.proofs.spelled.spelled.Goals as goal

pub told-init : goal.told-init
told-init g c = (c.new-list.ensures.items, λ x at long. absurd (Contains-none x at))

pub told-preserved : goal.told-preserved
told-preserved g c = (
  bytes_more g.T.Told.seen g.T.Told.spell g.T.Told.IsLong c.args.all.now c.told.item-index c.item-item.result c.told-test.true c.item-item.is _ _ c.told.invariant.0 c.in_ok-add_to.ensures.value,
  none_more g.T.Told.seen g.T.Told.spell g.T.Told.IsLong c.args.all.now c.told.item-index c.item-item.result c.told-test.true c.item-item.is c.told.invariant.1 c.in_ok-add_to.ensures.fits,
)

pub returns-in_err-add_to-clause-refused : goal.returns-in_err-add_to-clause-refused
returns-in_err-add_to-clause-refused g c =
    let p = err_from_is_err_and c.from_residual.result c.from_residual.ensures.1 in
    rw (p.1, p.2) (one_long g.T.Told.seen g.T.Told.spell g.T.Told.IsLong c.args.all.now c.told.item-index c.item-item.result c.told-test.true c.item-item.is _ c.in_err-add_to.ensures.refused)

pub returns-clause-value : goal.returns-clause-value
returns-clause-value g c = c.told.invariant.0 ∙ ap (λ xs. flat_map g.T.Told.spell (map g.T.Told.seen xs)) (take_all c.told.item-index c.args.all.now c.told-test.false)

pub returns-clause-fits : goal.returns-clause-fits
returns-clause-fits g c = subst (λ xs. NoneLong g.T.Told.IsLong (map g.T.Told.seen xs)) (take_all c.told.item-index c.args.all.now c.told-test.false) c.told.invariant.1
