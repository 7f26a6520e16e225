use Rattle.std.proofs.lemmas.Result.{err_from_is_err_and}
use Rattle.walrus_contents.specs.View.{parts_view}
use Rattle.walrus_module.specs.Asked.{OneMayRefuse}
use Rattle.walrus_module.specs.View.{meanings, view}
use Rattle.walrus.specs.Marked.{ReachesUnsound}
use Rattle.walrus.proofs.ReachedLemmas.{asked_refused, found_of, or_by_a_section}
use Rattle.walrus.proofs.passes.used.marked_and_counted.Goals as goal

pub returns-in_err-asked : goal.returns-in_err-asked
returns-in_err-asked g c =
    let p = err_from_is_err_and c.from_residual.result c.from_residual.ensures.1 in
    let G = λ (i : g.dyn-1.0.I). (g.dyn-1.0.entry i).1 in
    let m = c.args.module.now in
    rw (p.1, p.2) (asked_refused (ReachesUnsound (view G m)) (OneMayRefuse (meanings G m)) c.in_err-asked.field-0.0 c.in_err-asked.ensures.fails)

pub returns : goal.returns
returns g c =
    let G = λ (i : g.dyn-1.0.I). (g.dyn-1.0.entry i).1 in
    let m = c.args.module.now in
    or_by_a_section _ (OneMayRefuse (meanings G m)) _ c.search.result (found_of G m c.in_ok-asked.asked c.in_ok-asked.ensures.value (parts_view c.parts.result) c.parts.ensures c.search.result c.search.ensures)
