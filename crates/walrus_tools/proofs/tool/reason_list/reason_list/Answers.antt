use Rattle.std.proofs.lemmas.Result.{err_from_is_err_and}
use Rattle.walrus_sections.specs.Choice.{choices_seen}
use Rattle.walrus_tools.specs.ReasonBytes.{reason_seen}
use Rattle.walrus.specs.Wanted.{config_wanted}
use Rattle.walrus_tools.proofs.ReasonSpelled.{reason_refused, reason_spelled}
use Rattle.walrus_tools.proofs.tool.reason_list.reason_list.Goals as goal

pub returns-in_err-reason : goal.returns-in_err-reason
returns-in_err-reason c =
    let p = err_from_is_err_and c.from_residual.result c.from_residual.ensures.1 in
    rw (p.1, p.2) (reason_refused (config_wanted c.args.wanted) c.args.bytes.now (choices_seen c.args.choices.now) c.args.text.now _ c.in_err-reason.ensures)

pub returns : goal.returns
returns c =
    reason_spelled (config_wanted c.args.wanted) c.args.bytes.now (choices_seen c.args.choices.now) c.args.text.now (reason_seen c.in_ok-reason.reason) c.in_ok-reason.ensures
    c.reason_bytes.result c.reason_bytes.ensures.value c.reason_bytes.ensures.fits c.reason_bytes.ensures.refused
