use Rattle.std.proofs.Common.{◌≡◌, ◌≤◌, ◌<◌, ◌+◌, ℕ, arith, ap, sym, ◌∙◌, subst}
use Rattle.walrus_base.specs.Locals.{locals}
use Rattle.walrus_functions.specs.EmittedBody.{types_of}
use Rattle.walrus_functions.specs.Kept.{KeepsIndices, rank_at}
use Rattle.walrus_functions.proofs.KeptLemmas.{highest_more, kept_none, kept_more}
use Rattle.walrus_functions.proofs.kept.are_ranked.Goals as goal

pub locals-init : goal.locals-init
locals-init c = record {
  kept = λ flags each. kept_none (types_of (locals c.args.module_locals.now)) flags c.args.first c.args.params;
  highest = λ i from low. absurd (omega (arith, from, low));
  behind = omega arith;
}

pub locals-preserved : goal.locals-preserved
locals-preserved c =
    let slots = types_of (locals c.args.module_locals.now) in
    let first = c.args.first in
    let index = c.locals.index in
    let r = c.in-Some.rank in
    let here : rank_at slots (first + index) ≡ r = ap (rank_at slots) (sym c.at-id.ensures) ∙ c.in-Some.ensures.ranked.0 in
    let low = c.in-Some.ensures.ranked.1 in
    let under : (i : ℕ) → c.args.params ≤ i → i < index → rank_at slots (first + i) ≤ r = λ i from below. let h = c.locals.invariant.highest i from below in omega (arith, h, low) in
    let behind = c.locals.invariant.behind in
    record {
      kept = λ flags each. kept_more slots flags first c.args.params index (c.locals.invariant.kept flags (λ i from below. each i from (omega (arith, below)))) (each index behind (omega arith)) r here c.in-Some.ensures.ranked.2 under;
      highest = highest_more slots first c.args.params index r here under;
      behind = omega (arith, behind);
    }

pub returns-clause-kept : goal.returns-clause-kept
returns-clause-kept c = λ told flags each.
    let same : c.locals.index ≡ c.args.count = omega arith in
    subst (λ (n : ℕ). KeepsIndices (types_of (locals c.args.module_locals.now)) flags c.args.first c.args.params n) same (c.locals.invariant.kept flags (λ i from below. each i from (omega (arith, below, same))))
