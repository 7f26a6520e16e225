use Rattle.walrus_sections.specs.StripAnswers.{AnswersStripped}
use Rattle.mulkavesh_c.proofs.ChoiceLemmas.{list_answer}
use Rattle.mulkavesh_c.proofs.names.stripped.Goals as goal

pub returns : goal.returns
returns c =
    list_answer c.args.choice.now c.in_ok-choices.choices.items c.deref.result.now c.deref.ensures.value c.in_ok-choices.ensures (AnswersStripped c.args.input.now) c.strip.result c.strip.ensures
