use Rattle.std.proofs.Common.{refl, sym, ◌∙◌}
use Rattle.walrus_tools.specs.StubMatching.{AnswersMatching}
use Rattle.walrus_tools.specs.Wanted.{config_wanted}
use Rattle.walrus_tools.specs.WantedValue.{Wanted}
use Rattle.mulkavesh_c.specs.Answer.{Answer}
use Rattle.mulkavesh_c.specs.Flags.{is_known, wanted}
use Rattle.mulkavesh_c.specs.Names.{AreLists, UnderLists}
use Rattle.mulkavesh_c.proofs.AnswerLemmas.{asks_none, gives_unknown, gives_wanted}
use Rattle.mulkavesh_c.proofs.ChoiceLemmas.{untrue}
use Rattle.mulkavesh_c.proofs.mulkavesh_stub.Goals as goal

pub returns-in_default : goal.returns-in_default
returns-in_default c = gives_unknown _ _ _ _ _ _ _ (λ asked. asks_none (is_known c.args.flags) (wanted c.args.flags) (sym c.in_default.is ∙ c.wanted_by.ensures) asked.0) c.refused.ensures.status refl c.refused.ensures.told

pub returns-then-not-are_lists : goal.returns-then-not-are_lists
returns-then-not-are_lists c = gives_unknown _ _ _ _ _ _ _ (λ asked. untrue (c.if-not-are_lists.ensures.1 asked.1)) c.refused-then-not-are_lists.ensures.status refl c.refused-then-not-are_lists.ensures.told

pub returns : goal.returns
returns c =
    gives_wanted (λ (w : Wanted) (r : Answer). UnderLists c.args.«module».now c.args.name.now (AnswersMatching (config_wanted w) c.args.input.now) r) c.args.flags (AreLists c.args.«module».now c.args.name.now) c.in-Some.wanted
    (sym c.in-Some.is ∙ c.wanted_by.ensures) (c.if-not-are_lists.ensures.0 refl) c.stubbed-made.result c.of.result c.of.ensures _ _ _ _ c.stubbed-made.ensures c.put.ensures
