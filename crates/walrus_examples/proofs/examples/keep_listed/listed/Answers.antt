use Rattle.std.proofs.Common.{rules, ◌≡◌, ℕ, List, [], ◌∷◌, sym, ap, ◌∙◌, subst}
use Rattle.std.proofs.lemmas.List.{map-append}
use Rattle.std.proofs.lemmas.Result.{err_from_is_err_and}
use Rattle.walrus.specs.Base.Id.{place}
use Rattle.walrus.specs.Items.Functions.{functions}
use Rattle.walrus.specs.Items.Roots.{places}
use Rattle.walrus_examples.proofs.ListedBytes.{SoFar, next, none_listed}
use Rattle.walrus_examples.proofs.examples.keep_listed.listed.Goals as goal

pub returns-in_err-id : goal.returns-in_err-id
returns-in_err-id c =
    let some : c.indices.rest.now ≡ [] → ⊥ = λ none. search rules in
    let p = err_from_is_err_and c.from_residual.result c.from_residual.ensures.1 in
    rw (p.1, p.2) (none_listed (functions c.args.funcs.now) c.args.bytes.now (places c.indices.ids.items) c.indices.rest.now c.indices.invariant some _ c.in_err-id.ensures)

pub indices-preserved : goal.indices-preserved
indices-preserved c =
    subst (λ (ps : List ℕ). SoFar (functions c.args.funcs.now) c.args.bytes.now ps c.in_ok-id.after.now)
    (sym (ap places c.in_ok-push.ensures.items ∙ map-append place c.indices.ids.items (c.in_ok-id.id ∷ [])))
    (next (functions c.args.funcs.now) c.args.bytes.now (places c.indices.ids.items) c.indices.rest.now c.indices.invariant (place c.in_ok-id.id) c.in_ok-id.after.now c.in_ok-id.ensures)
