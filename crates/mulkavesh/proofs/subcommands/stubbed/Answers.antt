use Rattle.std.specs.Prelude.{Ok}
use Rattle.walrus_tools.specs.StubMatching.{AnswersMatching, RefusesMatching, StubsMatching}
use Rattle.walrus_tools.specs.Wanted.{config_wanted}
use Rattle.walrus_tools.specs.Weigh.{AnswersWeighed}
use Rattle.mulkavesh.specs.Choices.{imports_of, modules_of}
use Rattle.mulkavesh.proofs.AnswerLemmas.{aloud}
use Rattle.mulkavesh.proofs.subcommands.stubbed.Goals as goal

pub returns : goal.returns
returns c =
    let o = c.args.order.now in
    aloud o.is_quiet (AnswersMatching (config_wanted o.wanted) c.args.bytes.now (modules_of o) (imports_of o)) (AnswersWeighed (StubsMatching (modules_of o) (imports_of o)) (RefusesMatching (modules_of o) (imports_of o)) (config_wanted o.wanted) c.args.bytes.now) (Ok c.in_ok-noted.field-0) c.if-order.false
    (c.in_ok-made.made, c.in_ok-made.ensures, c.in_ok-noted.ensures)
