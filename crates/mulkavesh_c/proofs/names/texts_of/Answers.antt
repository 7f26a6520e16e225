use Rattle.std.proofs.Common.{arith}
use Rattle.mulkavesh_c.proofs.TextLemmas.{not_texts, text_more, texts_end}
use Rattle.mulkavesh_c.proofs.names.texts_of.Goals as goal

pub returns-in_default : goal.returns-in_default
returns-in_default c = not_texts c.args.choices.now c.choices.choice-index _ (omega (arith, c.choices-test.true, c.choices.auto.choice-index-end)) c.in_default.ensures.cases.0

pub choices-preserved : goal.choices-preserved
choices-preserved c = text_more c.args.choices.now c.choices.choice-index _ (omega (arith, c.choices-test.true, c.choices.auto.choice-index-end)) _ _ _ c.in_ok-push.ensures.items c.in-Ok.ensures.cases.0 c.choices.invariant

pub returns : goal.returns
returns c = texts_end c.args.choices.now c.choices.choice-index _ (omega (arith, c.choices-test.false, c.choices.auto.choice-index-end)) c.choices.invariant
