use Rattle.std.proofs.lemmas.Result.{err_from_is_err_and}
use Rattle.walrus_examples.proofs.SnipCall.{search_refused, snips}
use Rattle.walrus_examples.proofs.examples.snip_export.trap_named.Goals as goal

pub returns-in_err-id : goal.returns-in_err-id
returns-in_err-id g c =
    let p = err_from_is_err_and c.from_residual.result c.from_residual.ensures.1 in
    rw (p.1, p.2) (λ config whole. search_refused c.args.name.now config c.args.module.now c.args.module.now whole _ c.in_err-id.ensures)

pub returns : goal.returns
returns g c = λ config whole. snips c.args.name.now config c.args.module.now _ whole c.in_ok-id.id c.in_ok-id.ensures c.trap_export.result c.trap_export.ensures
