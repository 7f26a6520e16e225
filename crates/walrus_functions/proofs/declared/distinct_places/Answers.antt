use Rattle.std.proofs.Common.{ℕ, ◌||◌, Bool, List, [], ◌∷◌, ◌++◌, sym, ap, ◌∙◌, subst, map, take, nat_eq}
use Rattle.std.specs.List.{IsDistinct, list_any}
use Rattle.std.proofs.lemmas.Cmp.{nat_eq_equiv}
use Rattle.std.proofs.lemmas.Map.Keys.{IsDistinct-push}
use Rattle.walrus_base.specs.Id.{place}
use Rattle.walrus_base.proofs.Turns.{split_at, map_more}
use Rattle.walrus_functions.specs.Declaring.{is_taken}
use Rattle.walrus_base.proofs.DistinctLemmas.{twice, not_false, not_true, among-more}
use Rattle.walrus_functions.proofs.declared.distinct_places.Goals as goal

pub returns-then-not-branch : goal.returns-then-not-branch
returns-then-not-branch c =
    let done = map place (take c.loop-id.id-index c.args.ids.now) in
    let parts = split_at place c.args.ids.now c.loop-id.id-index _ c.loop-id-test.true in
    let again = not_false c.in_ok-take.field-0 (is_taken c.loop-id.places c.index.result) c.in_ok-take.ensures.added c.if-not-branch.true in
    twice done (map place c.args.ids.now) _ parts.0 parts.1 (ap (λ (p : ℕ). list_any (nat_eq p) done) (sym c.index.ensures) ∙ sym (c.loop-id.invariant.are c.index.result) ∙ again)

pub loop-id-preserved : goal.loop-id-preserved
loop-id-preserved c =
    let done = map place (take c.loop-id.id-index c.args.ids.now) in
    let more = map_more place c.args.ids.now c.loop-id.id-index _ c.loop-id-test.true ∙ ap (λ (p : ℕ). done ++ p ∷ []) (sym c.index.ensures) in
    let new = not_true c.in_ok-take.field-0 (is_taken c.loop-id.places c.index.result) c.in_ok-take.ensures.added c.if-not-branch.false in
    record {
      distinct = subst (λ (ps : List ℕ). IsDistinct nat_eq ps) (sym more) (IsDistinct-push nat_eq_equiv done c.index.result c.loop-id.invariant.distinct (sym (c.loop-id.invariant.are c.index.result) ∙ new));
      are = λ x. c.in_ok-take.ensures.taken x ∙ ap (λ (b : Bool). b || nat_eq x c.index.result) (c.loop-id.invariant.are x) ∙ sym (among-more x c.index.result done) ∙ ap (λ (ps : List ℕ). list_any (nat_eq x) ps) (sym more);
    }

pub loop-id-init : goal.loop-id-init
unfolding IsDistinct
loop-id-init c = record { distinct = tt; are = c.new-places.ensures }
