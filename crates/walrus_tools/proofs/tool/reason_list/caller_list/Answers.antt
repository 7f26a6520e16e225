use Rattle.std.proofs.Common.{List, map, subst, sym}
use Rattle.std.proofs.lemmas.Result.{err_from_is_err_and}
use Rattle.walrus_sections.specs.Choice.{choices_seen}
use Rattle.walrus_tools.specs.Links.{link_seen}
use Rattle.walrus_tools.specs.ReasonAnswers.{AreAsked}
use Rattle.walrus.specs.Wanted.{config_wanted}
use Rattle.walrus_tools.specs.declared.links.Link.{Link}
use Rattle.walrus_tools.proofs.ReasonSpelled.{callers_refused, callers_spelled}
use Rattle.walrus_tools.proofs.tool.reason_list.caller_list.Goals as goal

pub returns-in_err-links : goal.returns-in_err-links
returns-in_err-links c =
    let p = err_from_is_err_and c.from_residual.result c.from_residual.ensures.1 in
    rw (p.1, p.2) (callers_refused (config_wanted c.args.wanted) c.args.bytes.now (choices_seen c.args.choices.now) c.args.text.now _ c.in_err-links.ensures)

pub returns : goal.returns
returns c =
    callers_spelled (config_wanted c.args.wanted) c.args.bytes.now (choices_seen c.args.choices.now) c.args.text.now (map link_seen c.deref.result.now)
    (subst (λ (ls : List Link). AreAsked (config_wanted c.args.wanted) c.args.bytes.now (choices_seen c.args.choices.now) c.args.text.now (map link_seen ls)) (sym c.deref.ensures.value) c.in_ok-links.ensures)
    c.spelled.result c.spelled.ensures.value c.spelled.ensures.fits c.spelled.ensures.refused
