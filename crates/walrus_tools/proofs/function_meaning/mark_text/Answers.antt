use Rattle.std.proofs.Common.{sym, ◌∙◌}
use Rattle.std.proofs.lemmas.Result.{err_from_is_err_and}
use Rattle.walrus.specs.Items.Exports.{exports}
use Rattle.walrus.specs.Items.Functions.{functions}
use Rattle.walrus_tools.proofs.MeantLemmas.{index_marked, index_refused, name_marked, name_refused, star_marked}
use Rattle.walrus_tools.proofs.function_meaning.mark_text.Goals as goal

pub returns-in_err-id : goal.returns-in_err-id
returns-in_err-id c =
    let p = err_from_is_err_and c.from_residual.result c.from_residual.ensures.1 in
    rw (p.1, p.2) (index_refused (functions c.args.all.now) (exports c.args.exported.now) c.args.text.now c.in-Ok.index c.in-Ok.ensures.value.0 _ c.in_err-id.ensures)

pub returns-in-Ok : goal.returns-in-Ok
returns-in-Ok c =
    index_marked (functions c.args.all.now) (exports c.args.exported.now) c.args.text.now c.in-Ok.index c.in-Ok.ensures.value.0 c.in_ok-id.id c.in_ok-id.ensures
    c.args.marking.now.marks c.mark_one.new.marking.marks c.mark_one.result c.mark_one.ensures

pub returns-then-is_pattern : goal.returns-then-is_pattern
returns-then-is_pattern c =
    star_marked (functions c.args.all.now) (exports c.args.exported.now) c.args.text.now (λ i is. c.in_default.ensures.value.0 is.0) (sym c.is_pattern.ensures ∙ c.if-is_pattern.true)
    c.args.marking.now.marks c.mark_fitting.new.marking.marks c.mark_fitting.result c.mark_fitting.ensures

pub returns-in_err-id-2 : goal.returns-in_err-id-2
returns-in_err-id-2 c =
    let p = err_from_is_err_and c.from_residual-in_err-id-2.result c.from_residual-in_err-id-2.ensures.1 in
    rw (p.1, p.2) (name_refused (functions c.args.all.now) (exports c.args.exported.now) c.args.text.now (λ i is. c.in_default.ensures.value.0 is.0) (sym c.is_pattern.ensures ∙ c.if-is_pattern.false) _ c.in_err-id-2.ensures)

pub returns : goal.returns
returns c =
    name_marked (functions c.args.all.now) (exports c.args.exported.now) c.args.text.now (λ i is. c.in_default.ensures.value.0 is.0) (sym c.is_pattern.ensures ∙ c.if-is_pattern.false) c.in_ok-id-2.id c.in_ok-id-2.ensures
    c.args.marking.now.marks c.mark_one-2.new.marking.marks c.mark_one-2.result c.mark_one-2.ensures
