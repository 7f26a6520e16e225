use Rattle.std.proofs.Common.{sym, ◌∙◌}
use Rattle.std.proofs.lemmas.Result.{err_from_is_err_and}
use Rattle.walrus_contents.specs.View.{lent, parts_view}
use Rattle.walrus_module.proofs.Checked.{all_pass, live_refused, plan_refused}
use Rattle.walrus_module.proofs.FormsTested.{has_unspelled}
use Rattle.walrus_module.proofs.check.diagnose_parts.Goals as goal

pub returns-in_err-check_live : goal.returns-in_err-check_live
returns-in_err-check_live c =
    let p = err_from_is_err_and c.from_residual.result c.from_residual.ensures.1 in
    rw (p.1, p.2) (live_refused (parts_view c.args.parts) _ c.in_err-check_live.ensures)

pub returns-in_err-prepared : goal.returns-in_err-prepared
returns-in_err-prepared c =
    let p = err_from_is_err_and c.from_residual-in_err-prepared.result c.from_residual-in_err-prepared.ensures.1 in
    rw (p.1, p.2) (plan_refused c.args.parts _ c.in_err-prepared.ensures.refused)

pub returns-then-not-are_forms_spelled : goal.returns-then-not-are_forms_spelled
returns-then-not-are_forms_spelled c = has_unspelled (lent c.args.parts) (sym c.are_forms_spelled.ensures ∙ c.if-not-are_forms_spelled.true)

pub returns-in-None : goal.returns-in-None
returns-in-None c =
    all_pass c.args.parts _ c.in_ok-check_live.ensures c.in_ok-prepared.ensures.prepared
    (sym c.are_forms_spelled.ensures ∙ c.if-not-are_forms_spelled.false) (rw c.in-None.is at c.in_ok-broken.ensures)

pub returns-in-Some : goal.returns-in-Some
returns-in-Some c = rw c.in-Some.is at c.in_ok-broken.ensures
