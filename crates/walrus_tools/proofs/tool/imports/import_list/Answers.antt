use Rattle.std.proofs.lemmas.Result.{err_from_is_err_and}
use Rattle.walrus_sections.specs.Choice.{choices_seen}
use Rattle.walrus.specs.Wanted.{config_wanted}
use Rattle.walrus_tools.proofs.SpelledEnds.{imports_refused, imports_spelled}
use Rattle.walrus_tools.proofs.tool.imports.import_list.Goals as goal

pub returns-in_err-told : goal.returns-in_err-told
returns-in_err-told c =
    let p = err_from_is_err_and c.from_residual.result c.from_residual.ensures.1 in
    rw (p.1, p.2) (imports_refused (config_wanted c.args.wanted) c.args.bytes.now (choices_seen c.args.choices.now) _ c.in_err-told.ensures)

pub returns : goal.returns
returns c =
    imports_spelled (config_wanted c.args.wanted) c.args.bytes.now (choices_seen c.args.choices.now) c.deref.result.now _ c.deref.ensures.value c.in_ok-told.ensures
    c.spelled.result c.spelled.ensures.value c.spelled.ensures.fits c.spelled.ensures.refused
