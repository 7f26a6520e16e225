use Rattle.std.proofs.Common.{ℕ, Result, rules, subst}
use Rattle.std.proofs.lemmas.List.Sorted.{answers_always}
use Rattle.walrus.specs.Base.Id.{place}
use Rattle.walrus_tools.specs.LinkSteps.{FindsBody}
use Rattle.walrus_tools.proofs.BodySearch.{result_place, searched}
use Rattle.walrus_tools.proofs.links.place_of.Goals as goal

pub returns-in-Ok : goal.returns-in-Ok
returns-in-Ok c =
    let facts = c.binary_search_by_key.ensures in
    let by_key = facts.position (λ body. place body.0) (answers_always _ _ _ (λ f a r g called. search rules)) in
    subst (λ (r : Result ℕ ℕ). FindsBody c.args.bodies.now (place c.args.id) (result_place r)) c.in-Ok.is
    (subst (λ (n : ℕ). FindsBody c.args.bodies.now n (result_place c.binary_search_by_key.result)) c.index-index.ensures (searched c.args.bodies.now c.requires _ _ facts.bound by_key))

pub returns-in-Err : goal.returns-in-Err
returns-in-Err c =
    let facts = c.binary_search_by_key.ensures in
    let by_key = facts.position (λ body. place body.0) (answers_always _ _ _ (λ f a r g called. search rules)) in
    subst (λ (r : Result ℕ ℕ). FindsBody c.args.bodies.now (place c.args.id) (result_place r)) c.in-Err.is
    (subst (λ (n : ℕ). FindsBody c.args.bodies.now n (result_place c.binary_search_by_key.result)) c.index-index.ensures (searched c.args.bodies.now c.requires _ _ facts.bound by_key))
