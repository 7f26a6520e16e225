use Rattle.std.proofs.Common.{get_or, refl}
use Rattle.walrus_sections.specs.Choice.{Suits, choice_seen}
use Rattle.walrus_sections.proofs.ChoiceLemmas.{is_not, no_choice, none_at_all, none_more, one_fits}
use Rattle.walrus_sections.proofs.choice.fits_one.Goals as goal

pub returns-then-suits : goal.returns-then-suits
returns-then-suits c =
    (λ t. one_fits c.args.choices.now c.args.is_kept c.args.text.now c.choices.choice-index no_choice c.choices-test.true (c.suits.ensures.0 c.if-suits.true), λ f. refl)

pub choices-preserved : goal.choices-preserved
choices-preserved c =
    none_more c.args.choices.now c.args.is_kept c.args.text.now c.choices.choice-index no_choice c.choices-test.true
    (is_not c.suits.result (Suits c.args.is_kept c.args.text.now (choice_seen (get_or c.args.choices.now c.choices.choice-index no_choice))) c.suits.ensures c.if-suits.false) c.choices.invariant

pub returns : goal.returns
returns c = none_at_all c.args.choices.now c.args.is_kept c.args.text.now c.choices.choice-index c.choices-test.false c.choices.invariant
