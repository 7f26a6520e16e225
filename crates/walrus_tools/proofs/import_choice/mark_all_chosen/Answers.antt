use Rattle.std.proofs.Common.{◌≡◌, ◌≤◌, ◌∙◌, ℕ, arith, length, subst}
use Rattle.walrus.specs.Items.Imports.{imports}
use Rattle.walrus_sections.specs.Choice.{choices_seen}
use Rattle.walrus_tools.specs.MarkSteps.{Meets}
use Rattle.walrus_tools.specs.StubMatching.{ChosenAt}
use Rattle.walrus_tools.proofs.ChosenImports.{chosen_within}
use Rattle.walrus_tools.proofs.MarkLemmas.{meets_all, meets_more, meets_none}
use Rattle.walrus_tools.proofs.import_choice.mark_all_chosen.Goals as goal

pub places-init : goal.places-init
places-init c = (
  meets_none (ChosenAt (choices_seen c.args.modules.now) (choices_seen c.args.names.now) (imports c.args.all.now)) c.args.marking.now,
  c.index-at-end.ensures ∙ c.next_id.ensures,
)

pub mark_chosen-requires : goal.mark_chosen-requires
mark_chosen-requires c = c.places.invariant.0.adds.places ∙ c.requires

pub places-preserved : goal.places-preserved
places-preserved c =
    let R = ChosenAt (choices_seen c.args.modules.now) (choices_seen c.args.names.now) (imports c.args.all.now) in
    let one = subst (λ (k : ℕ). Meets (R k) c.places.marking c.mark_chosen.new.marking) c.at.ensures c.mark_chosen.ensures in
    (meets_more R c.places.at c.args.marking.now c.places.marking c.mark_chosen.new.marking c.places.invariant.0 one, c.places.invariant.1)

pub returns : goal.returns
returns c =
    let R = ChosenAt (choices_seen c.args.modules.now) (choices_seen c.args.names.now) (imports c.args.all.now) in
    let last : c.places.at ≡ c.index-at-end.result = omega (arith, c.places-test.false, c.places.auto.at-end) in
    let end : length (imports c.args.all.now) ≤ c.places.at = omega (arith, last, c.places.invariant.1) in
    meets_all R (length (imports c.args.all.now)) c.places.at end (chosen_within (choices_seen c.args.modules.now) (choices_seen c.args.names.now) (imports c.args.all.now)) c.args.marking.now c.places.marking
    c.places.invariant.0
