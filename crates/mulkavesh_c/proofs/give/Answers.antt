use Rattle.std.proofs.Common.{refl, sym, ◌∙◌}
use Rattle.walrus_tools.specs.Facade.{Config}
use Rattle.mulkavesh_c.specs.Flags.{is_known, wanted}
use Rattle.mulkavesh_c.specs.Questions.{AnswersTo}
use Rattle.mulkavesh_c.proofs.AnswerLemmas.{asks_none, gives_unknown}
use Rattle.mulkavesh_c.proofs.ChoiceLemmas.{gives_chosen, untrue}
use Rattle.mulkavesh_c.proofs.give.Goals as goal

pub returns-in_default : goal.returns-in_default
returns-in_default c = gives_unknown _ _ _ _ _ _ _ (λ asked. asks_none (is_known c.args.flags) (wanted c.args.flags) (sym c.in_default.is ∙ c.wanted_by.ensures) asked.0) c.refused.ensures.status refl c.refused.ensures.told

pub returns-then-not-are_choices : goal.returns-then-not-are_choices
returns-then-not-are_choices c = gives_unknown _ _ _ _ _ _ _ (λ asked. untrue (c.if-not-are_choices.ensures.1 asked.1)) c.refused-then-not-are_choices.ensures.status refl c.refused-then-not-are_choices.ensures.told

pub returns : goal.returns
returns c =
    gives_chosen (λ (k : Config). AnswersTo c.args.question k c.args.input.now) c.args.flags c.args.input.now c.args.choice.now c.in-Some.wanted (sym c.in-Some.is ∙ c.wanted_by.ensures) (c.if-not-are_choices.ensures.0 refl)
    c.answer_to-made.result c.answer_to-made.ensures _ _ _ _ c.put.ensures
