use Rattle.std.specs.Prelude.{Ok}
use Rattle.walrus_tools.specs.TrapEdit.{AnswersMeant, RefusesMeant, SnipsMeant}
use Rattle.walrus_tools.specs.Wanted.{config_wanted}
use Rattle.walrus_tools.specs.Weigh.{AnswersWeighed}
use Rattle.mulkavesh.specs.Choices.{functions_of}
use Rattle.mulkavesh.proofs.AnswerLemmas.{aloud}
use Rattle.mulkavesh.proofs.subcommands.snipped.Goals as goal

pub returns : goal.returns
returns c =
    let o = c.args.order.now in
    aloud o.is_quiet (AnswersMeant (config_wanted o.wanted) c.args.bytes.now (functions_of o)) (AnswersWeighed (SnipsMeant (functions_of o)) (RefusesMeant (functions_of o)) (config_wanted o.wanted) c.args.bytes.now) (Ok c.in_ok-noted.field-0) c.if-order.false
    (c.in_ok-made.made, c.in_ok-made.ensures, c.in_ok-noted.ensures)
