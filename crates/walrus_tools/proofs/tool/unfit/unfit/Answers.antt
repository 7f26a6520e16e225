use Rattle.std.proofs.Common.{subst}
use Rattle.std.specs.Prelude.{Ok}
use Rattle.walrus.specs.Modules.Flags.{Flags, config_of, flags}
use Rattle.walrus_sections.specs.Choice.{choices_seen}
use Rattle.walrus_tools.specs.ChosenModule.{AnswersUnfit}
use Rattle.walrus_tools.proofs.ChosenEnds.{unfit_told}
use Rattle.walrus_tools.proofs.tool.unfit.unfit.Goals as goal

pub returns : goal.returns
returns c =
    let choices = choices_seen c.args.choices.now in
    subst (λ (f : Flags). AnswersUnfit (config_of f) c.args.bytes.now choices (Ok c.in_ok-unfit_number.field-0)) c.of_choices-config.ensures.value
    (unfit_told _ (config_of (flags c.of_choices-config.result)) c.args.bytes.now choices c.in_ok-module.module c.in_ok-module.ensures.found c.in_ok-unfit_number.field-0 c.in_ok-unfit_number.ensures)
