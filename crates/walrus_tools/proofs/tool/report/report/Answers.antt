use Rattle.std.proofs.lemmas.Result.{err_from_is_err_and}
use Rattle.walrus_sections.specs.Choice.{choices_seen}
use Rattle.walrus.specs.Wanted.{config_wanted}
use Rattle.walrus_tools.proofs.WeighEnds.{report_refused}
use Rattle.walrus_tools.proofs.tool.report.report.Goals as goal

pub returns-in_err-smaller : goal.returns-in_err-smaller
returns-in_err-smaller c =
    let p = err_from_is_err_and c.from_residual.result c.from_residual.ensures.1 in
    rw (p.1, p.2) (report_refused (config_wanted c.args.wanted) c.args.bytes.now (choices_seen c.args.choices.now) _ c.in_err-smaller.ensures)

pub returns : goal.returns
returns c = (c.in_ok-smaller.smaller.output.items, c.in_ok-smaller.ensures)
