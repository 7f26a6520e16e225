use Rattle.std.proofs.lemmas.Result.{err_from_is_err_and}
use Rattle.walrus_contents.specs.View.{parts_view}
use Rattle.walrus_plan.proofs.Matching.{match_both}
use Rattle.walrus_plan.proofs.matched.check_matched.Goals as goal

pub returns-in_err-check_imports : goal.returns-in_err-check_imports
returns-in_err-check_imports c =
    let p = err_from_is_err_and c.from_residual.result c.from_residual.ensures.1 in
    rw (p.1, p.2) c.in_err-check_imports.ensures

pub returns-then-not-are_items_answered : goal.returns-then-not-are_items_answered
returns-then-not-are_items_answered c = c.are_items_answered.ensures.lacks c.if-not-are_items_answered.true

pub returns : goal.returns
returns c = match_both (parts_view c.args.parts) c.in_ok-check_imports.ensures (c.are_items_answered.ensures.answered c.if-not-are_items_answered.false)
