use Rattle.std.proofs.Common.{refl}
use Rattle.walrus_sections.specs.Choice.{IsList}
use Rattle.mulkavesh_c.proofs.AnswerLemmas.{gives_plain, gives_unknown}
use Rattle.mulkavesh_c.proofs.ChoiceLemmas.{untrue}
use Rattle.mulkavesh_c.proofs.mulkavesh_strip.Goals as goal

pub returns-then-not-are_choices : goal.returns-then-not-are_choices
returns-then-not-are_choices c =
    gives_unknown _ (IsList c.args.choice.now) _ _ _ _ _ (λ list. untrue (c.if-not-are_choices.ensures.1 list)) c.refused.ensures.status refl c.refused.ensures.told

pub returns : goal.returns
returns c = gives_plain _ (IsList c.args.choice.now) _ _ _ _ (c.if-not-are_choices.ensures.0 refl) c.stripped-made.result c.of.result c.of.ensures c.stripped-made.ensures c.put.ensures
