use Rattle.std.specs.Prelude.{Ok}
use Rattle.walrus_tools.specs.ChosenModule.{AnswersChosen, KeepsChosen, RefusesChosen}
use Rattle.walrus_tools.specs.Wanted.{config_wanted}
use Rattle.walrus_tools.specs.Weigh.{AnswersWeighed}
use Rattle.mulkavesh.specs.Choices.{roots_of}
use Rattle.mulkavesh.proofs.AnswerLemmas.{aloud}
use Rattle.mulkavesh.proofs.subcommands.smaller.Goals as goal

pub returns : goal.returns
returns c =
    let o = c.args.order.now in
    aloud o.is_quiet (AnswersChosen (config_wanted o.wanted) c.args.bytes.now (roots_of o)) (AnswersWeighed (KeepsChosen (roots_of o)) (RefusesChosen (roots_of o)) (config_wanted o.wanted) c.args.bytes.now) (Ok c.in_ok-noted.field-0) c.if-order.false
    (c.in_ok-made.made, c.in_ok-made.ensures, c.in_ok-noted.ensures)
