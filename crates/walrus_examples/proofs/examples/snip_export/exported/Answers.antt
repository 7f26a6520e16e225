use Rattle.std.proofs.Common.{rules, ◌≡◌, ◌∙◌, false, sym}
use Rattle.std.proofs.lemmas.Result.{err_from_is_err_and}
use Rattle.walrus.specs.Items.Exports.{exports}
use Rattle.walrus_examples.proofs.SnipCall.{is_found, named_before, not_found}
use Rattle.walrus_examples.proofs.examples.snip_export.exported.Goals as goal

pub returns-in_err-id : goal.returns-in_err-id
returns-in_err-id c =
    let p = err_from_is_err_and c.from_residual.result c.from_residual.ensures.1 in
    rw (p.1, p.2) (not_found c.args.name.now (exports c.args.all.now) _ c.in_err-id.ensures)

pub returns-then-not-is_named_first : goal.returns-then-not-is_named_first
returns-then-not-is_named_first c =
    let other : c.is_named_first.result ≡ false = search rules in
    named_before c.args.name.now (exports c.args.all.now) c.in_ok-id.id (is_found c.args.name.now (exports c.args.all.now) c.in_ok-id.id c.in_ok-id.ensures) (sym other ∙ c.is_named_first.ensures)
