use Rattle.std.proofs.Common.{◌≡◌, ◌≤◌, ◌∙◌, ℕ, arith, length, subst}
use Rattle.walrus.specs.Items.Exports.{exports}
use Rattle.walrus.specs.Items.Functions.{functions}
use Rattle.walrus_tools.specs.MarkSteps.{IsExported, Meets}
use Rattle.walrus_tools.proofs.MarkLemmas.{meets_all, meets_more, meets_none}
use Rattle.walrus_tools.proofs.MeantLemmas.{exported_within}
use Rattle.walrus_tools.proofs.function_meaning.mark_all_exported.Goals as goal

pub places-init : goal.places-init
places-init c = (meets_none (IsExported c.args.name.now (functions c.args.all.now) (exports c.args.exported.now)) c.args.marking.now, c.index-at-end.ensures ∙ c.next_id.ensures)

pub mark_exported-requires : goal.mark_exported-requires
mark_exported-requires c = c.places.invariant.0.adds.places ∙ c.requires

pub places-preserved : goal.places-preserved
places-preserved c =
    let R = IsExported c.args.name.now (functions c.args.all.now) (exports c.args.exported.now) in
    let one = subst (λ (k : ℕ). Meets (R k) c.places.marking c.mark_exported.new.marking) c.at.ensures c.mark_exported.ensures in
    (meets_more R c.places.at c.args.marking.now c.places.marking c.mark_exported.new.marking c.places.invariant.0 one, c.places.invariant.1)

pub returns : goal.returns
returns c =
    let R = IsExported c.args.name.now (functions c.args.all.now) (exports c.args.exported.now) in
    let last : c.places.at ≡ c.index-at-end.result = omega (arith, c.places-test.false, c.places.auto.at-end) in
    let end : length (exports c.args.exported.now) ≤ c.places.at = omega (arith, last, c.places.invariant.1) in
    meets_all R (length (exports c.args.exported.now)) c.places.at end (exported_within c.args.name.now (functions c.args.all.now) (exports c.args.exported.now)) c.args.marking.now c.places.marking c.places.invariant.0
