use Rattle.std.proofs.Common.{refl, sym, ◌∙◌}
use Rattle.walrus_sections.specs.Choice.{AllGo}
use Rattle.walrus_tools.specs.TrapEdit.{AnswersMeant}
use Rattle.walrus_tools.specs.Wanted.{config_wanted}
use Rattle.walrus_tools.specs.WantedValue.{Wanted}
use Rattle.mulkavesh_c.specs.Answer.{Answer}
use Rattle.mulkavesh_c.specs.Flags.{is_known, wanted}
use Rattle.mulkavesh_c.specs.Names.{UnderTexts}
use Rattle.mulkavesh_c.proofs.AnswerLemmas.{asks_none, gives_unknown, gives_wanted}
use Rattle.mulkavesh_c.proofs.ChoiceLemmas.{untrue}
use Rattle.mulkavesh_c.proofs.mulkavesh_snip.Goals as goal

pub returns-in_default : goal.returns-in_default
returns-in_default c = gives_unknown _ _ _ _ _ _ _ (λ asked. asks_none (is_known c.args.flags) (wanted c.args.flags) (sym c.in_default.is ∙ c.wanted_by.ensures) asked.0) c.refused.ensures.status refl c.refused.ensures.told

pub returns-then-not-all_go : goal.returns-then-not-all_go
returns-then-not-all_go c = gives_unknown _ _ _ _ _ _ _ (λ asked. untrue (c.if-not-all_go.ensures.1 asked.1)) c.refused-then-not-all_go.ensures.status refl c.refused-then-not-all_go.ensures.told

pub returns : goal.returns
returns c =
    gives_wanted (λ (w : Wanted) (r : Answer). UnderTexts c.args.function.now (AnswersMeant (config_wanted w) c.args.input.now) r) c.args.flags (AllGo c.args.function.now) c.in-Some.wanted (sym c.in-Some.is ∙ c.wanted_by.ensures)
    (c.if-not-all_go.ensures.0 refl) c.snipped-made.result c.of.result c.of.ensures _ _ _ _ c.snipped-made.ensures c.put.ensures
