use Rattle.walrus_sections.proofs.Choosers.{begins, ends, turns}
use Rattle.walrus_sections.proofs.chooser.names_of.Goals as goal

pub choices-init : goal.choices-init
choices-init c = λ text. begins c.args.choices.now c.args.is_kept text _ _ c.new-plain.ensures.items c.new-starred.ensures.items

pub choices-preserved : goal.choices-preserved
choices-preserved c = λ text. turns c.args.choices.now c.args.is_kept text c.choices.choice-index _ c.choices-test.true _ _ (c.in_ok-add.ensures text) (c.choices.invariant text)

pub returns : goal.returns
returns c = record {
  sorted = c.sort_unstable.ensures.sorted;
  fit = λ text. ends c.args.choices.now c.args.is_kept text c.choices.choice-index _ _ _ c.choices-test.false c.sort_unstable.ensures.permutation (c.choices.invariant text);
}
