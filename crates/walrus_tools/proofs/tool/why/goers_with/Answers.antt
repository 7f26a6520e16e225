use Rattle.std.proofs.Common.{Option, ap, inr, subst}
use Rattle.std.proofs.lemmas.Result.{err_from_is_err_and}
use Rattle.walrus.specs.Base.Id.{place}
use Rattle.walrus.specs.Code.Code.{item_of}
use Rattle.walrus.specs.Items.LocalFunction.{LocalFunction}
use Rattle.walrus_tools.specs.AloneSteps.{TradesIfAny}
use Rattle.walrus_tools.proofs.tool.why.goers_with.Goals as goal

pub returns-in_err-used : goal.returns-in_err-used
returns-in_err-used g c =
    let f = place c.in-Function.id in
    let p = err_from_is_err_and c.from_residual-in_err-used.result c.from_residual-in_err-used.ensures.1 in
    let trades = subst (λ (o : Option LocalFunction). TradesIfAny f c.args.module.now c.trap_one.new.module o) c.in-Some.is c.in_ok-body.ensures in
    rw (p.1, p.2) (inr (f, c.in-Some.body, c.trap_one.new.module, trades, c.in_err-used.ensures))

pub returns : goal.returns
returns g c =
    let f = place c.in-Function.id in
    let trades = subst (λ (o : Option LocalFunction). TradesIfAny f c.args.module.now c.trap_one.new.module o) c.in-Some.is c.in_ok-body.ensures in (
      f,
      ap item_of c.in-Function.is,
      record {
        body = c.in-Some.body;
        trapped = c.trap_one.new.module;
        trades = trades;
        used = c.in_ok-used.used;
        finds = c.in_ok-used.ensures;
        goers = c.in_ok-marks.ensures;
        back = c.put_back.ensures;
      },
    )
