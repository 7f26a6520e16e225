use Rattle.std.proofs.Common.{List, subst}
use Rattle.walrus_sections.specs.Choice.{choices_seen}
use Rattle.walrus_tools.specs.Wanted.{config_wanted}
use Rattle.walrus_sections.specs.declared.choice.Choice.{Choice as HeldChoice}
use Rattle.mulkavesh_c.specs.ChosenRoots.{IsNumbered}
use Rattle.mulkavesh_c.specs.Questions.{AnswersTo}
use Rattle.mulkavesh_c.proofs.ChoiceLemmas.{made_chosen, made_refused}
use Rattle.mulkavesh_c.proofs.QuestionLemmas.{passes}
use Rattle.mulkavesh_c.proofs.choices.answer_to.Goals as goal

pub returns-in-Err : goal.returns-in-Err
returns-in-Err c =
    made_refused (config_wanted c.args.wanted) c.args.input.now c.args.choice.now (AnswersTo c.args.question (config_wanted c.args.wanted) c.args.input.now) (passes c.args.question (config_wanted c.args.wanted) c.args.input.now)
    c.in-Err.error c.in-Err.ensures c.of.result c.of.ensures

pub returns : goal.returns
returns c =
    made_chosen (config_wanted c.args.wanted) c.args.input.now c.args.choice.now (AnswersTo c.args.question (config_wanted c.args.wanted) c.args.input.now) (passes c.args.question (config_wanted c.args.wanted) c.args.input.now)
    (choices_seen c.in-Ok.choices.items) c.in-Ok.ensures c.answered-answer.result
    (subst (λ (cs : List HeldChoice). AnswersTo c.args.question (config_wanted c.args.wanted) c.args.input.now (choices_seen cs) c.answered-answer.result) c.deref.ensures.value c.answered-answer.ensures)
    c.numbered.result (subst (λ (cs : List HeldChoice). IsNumbered (config_wanted c.args.wanted) c.args.input.now (choices_seen cs) c.answered-answer.result c.numbered.result) c.deref-2.ensures.value c.numbered.ensures)
