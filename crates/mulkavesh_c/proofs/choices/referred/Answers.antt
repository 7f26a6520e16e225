use Rattle.std.proofs.Common.{sym}
use Rattle.walrus_sections.specs.Choice.{choices_seen}
use Rattle.walrus_tools.specs.ReasonAnswers.{AnswersCallerList}
use Rattle.walrus_tools.specs.Wanted.{config_wanted}
use Rattle.mulkavesh_c.proofs.ChoiceLemmas.{name_answer}
use Rattle.mulkavesh_c.proofs.choices.referred.Goals as goal

pub returns-in-Ok : goal.returns-in-Ok
returns-in-Ok c =
    name_answer c.args.text.now c.in-Ok.text.now (sym c.in-Ok.ensures.cases.0) c.in-Ok.ensures.cases.1 (AnswersCallerList (config_wanted c.args.wanted) c.args.input.now (choices_seen c.args.choices.now)) _ c.caller_list.result c.caller_list.ensures
