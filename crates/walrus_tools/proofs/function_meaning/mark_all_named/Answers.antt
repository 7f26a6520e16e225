use Rattle.std.proofs.Common.{◌≡◌, ◌≤◌, ◌∙◌, ℕ, arith, length, subst}
use Rattle.walrus.specs.Items.Functions.{functions}
use Rattle.walrus_tools.specs.MarkSteps.{IsNamed, Meets}
use Rattle.walrus_tools.proofs.MarkLemmas.{meets_all, meets_more, meets_none}
use Rattle.walrus_tools.proofs.MeantLemmas.{named_within}
use Rattle.walrus_tools.proofs.function_meaning.mark_all_named.Goals as goal

pub places-init : goal.places-init
places-init c = (meets_none (IsNamed c.args.name.now (functions c.args.all.now)) c.args.marking.now, c.index-at-end.ensures ∙ c.next_id.ensures)

pub mark_named-requires : goal.mark_named-requires
mark_named-requires c = c.places.invariant.0.adds.places ∙ c.requires

pub places-preserved : goal.places-preserved
places-preserved c =
    let R = IsNamed c.args.name.now (functions c.args.all.now) in
    let one = subst (λ (k : ℕ). Meets (R k) c.places.marking c.mark_named.new.marking) c.at.ensures c.mark_named.ensures in
    (meets_more R c.places.at c.args.marking.now c.places.marking c.mark_named.new.marking c.places.invariant.0 one, c.places.invariant.1)

pub returns : goal.returns
returns c =
    let R = IsNamed c.args.name.now (functions c.args.all.now) in
    let last : c.places.at ≡ c.index-at-end.result = omega (arith, c.places-test.false, c.places.auto.at-end) in
    let end : length (functions c.args.all.now) ≤ c.places.at = omega (arith, last, c.places.invariant.1) in
    meets_all R (length (functions c.args.all.now)) c.places.at end (named_within c.args.name.now (functions c.args.all.now)) c.args.marking.now c.places.marking c.places.invariant.0
