use Rattle.std.proofs.Common.{◌≤◌, length, refl, arith}
use Rattle.walrus_sections.specs.NameLists.{texts}
use Rattle.std.proofs.lemmas.Bool.{false≢true as untrue}
use Rattle.walrus_sections.proofs.LookUps.{met_all, met_more, unfit_at}
use Rattle.walrus_sections.proofs.name_lists.first_unfit.Goals as goal

pub returns-then-not-fits_text : goal.returns-then-not-fits_text
returns-then-not-fits_text c =
    unfit_at (texts c.args.all.now) c.args.choices.now c.choices.number _ (omega (arith, c.choices-test.true, c.choices.auto.number-end)) (λ fits. untrue (c.if-not-fits_text.ensures.1 fits)) c.choices.invariant

pub choices-preserved : goal.choices-preserved
choices-preserved c =
    met_more (texts c.args.all.now) c.args.choices.now c.choices.number _ (omega (arith, c.choices-test.true, c.choices.auto.number-end)) (c.if-not-fits_text.ensures.0 refl) c.choices.invariant

pub returns : goal.returns
returns c =
    let past : length c.args.choices.now ≤ c.choices.number = omega (arith, c.choices-test.false, c.choices.auto.number-end) in
    met_all (texts c.args.all.now) c.args.choices.now c.choices.number past c.choices.invariant
