use Rattle.std.proofs.Common.{◌∙◌, ◌++◌, ap, flat_map, map, subst, sym, take_all}
use Rattle.std.proofs.lemmas.List.{append-nil}
use Rattle.std.proofs.lemmas.Result.{err_from_is_err_and}
use Rattle.walrus.proofs.Base.Lists.{Contains-none}
use Rattle.walrus_tools.specs.Spelled.{NoneLong}
use Rattle.walrus_tools.proofs.ReasonSpelled.{bytes_behind}
use Rattle.walrus_tools.proofs.Spellings.{none_more, one_long}
use Rattle.walrus_tools.proofs.spelled.add_all.Goals as goal

pub added-init : goal.added-init
added-init g c = (sym (append-nil c.args.to.now.items), λ x at long. absurd (Contains-none x at))

pub added-preserved : goal.added-preserved
added-preserved g c = (
  bytes_behind g.T.Told.seen g.T.Told.spell g.T.Told.IsLong c.args.all.now c.added.item-index c.item-item.result c.added-test.true c.item-item.is _ _ _ c.added.invariant.0 c.in_ok-add_to.ensures.value,
  none_more g.T.Told.seen g.T.Told.spell g.T.Told.IsLong c.args.all.now c.added.item-index c.item-item.result c.added-test.true c.item-item.is c.added.invariant.1 c.in_ok-add_to.ensures.fits,
)

pub returns-in_err-add_to-clause-refused : goal.returns-in_err-add_to-clause-refused
returns-in_err-add_to-clause-refused g c =
    let p = err_from_is_err_and c.from_residual.result c.from_residual.ensures.1 in
    rw (p.1, p.2) (one_long g.T.Told.seen g.T.Told.spell g.T.Told.IsLong c.args.all.now c.added.item-index c.item-item.result c.added-test.true c.item-item.is _ c.in_err-add_to.ensures.refused)

pub returns-clause-value : goal.returns-clause-value
returns-clause-value g c = c.added.invariant.0 ∙ ap (λ xs. c.args.to.now.items ++ flat_map g.T.Told.spell (map g.T.Told.seen xs)) (take_all c.added.item-index c.args.all.now c.added-test.false)

pub returns-clause-fits : goal.returns-clause-fits
returns-clause-fits g c = subst (λ xs. NoneLong g.T.Told.IsLong (map g.T.Told.seen xs)) (take_all c.added.item-index c.args.all.now c.added-test.false) c.added.invariant.1
