use Rattle.std.proofs.Common.{refl}
use Rattle.std.proofs.lemmas.Bool.{false≢true as untrue}
use Rattle.walrus_sections.proofs.StripLemmas.{all_met, met_more, one_unmet}
use Rattle.walrus_sections.proofs.tool.strip.all_fit.Goals as goal

pub loop-choice-preserved : goal.loop-choice-preserved
loop-choice-preserved c = met_more c.args.pieces.now c.args.choices.now c.loop-choice.choice-index _ c.loop-choice-test.true (c.if-not-is_met.ensures.0 refl) c.loop-choice.invariant

pub returns-then-not-is_met-clause-none : goal.returns-then-not-is_met-clause-none
returns-then-not-is_met-clause-none c = λ h. one_unmet c.args.pieces.now c.args.choices.now c.loop-choice.choice-index _ c.loop-choice-test.true (λ met. untrue (c.if-not-is_met.ensures.1 met))

pub returns-clause-all : goal.returns-clause-all
returns-clause-all c = λ h. all_met c.args.pieces.now c.args.choices.now c.loop-choice.choice-index c.loop-choice-test.false c.loop-choice.invariant
