use Rattle.walrus_sections.proofs.Choosers.{none_held, one_held}
use Rattle.walrus_sections.proofs.chooser.has_none_kept.Goals as goal

pub returns-then-choice : goal.returns-then-choice
returns-then-choice c = one_held c.args.choices.now c.choices.choice-index _ c.choices-test.true c.if-choice.true

pub returns : goal.returns
returns c = none_held c.args.choices.now c.choices.choice-index c.choices-test.false c.choices.invariant
