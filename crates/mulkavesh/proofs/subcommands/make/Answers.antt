use Rattle.std.specs.Prelude.{Ok}
use Rattle.mulkavesh.specs.declared.order.Work.TheVariants as work
use Rattle.mulkavesh.specs.Subcommands.{Lists, Reports, TellsWhy}
use Rattle.mulkavesh.proofs.AnswerLemmas.{by_work, written}
use Rattle.walrus_tools.specs.Wanted.{config_wanted}
use Rattle.mulkavesh.proofs.subcommands.make.Goals as goal

pub returns-in_ok-reported-in-Report : goal.returns-in_ok-reported-in-Report
returns-in_ok-reported-in-Report c =
    let o = c.args.order.now in
    by_work o c.args.bytes.now work.Report (Ok c.only.result) c.in-Report.is
    (written (Reports o (config_wanted o.wanted) c.args.bytes.now) c.in_ok-reported-in-Report.field-0 c.only.result c.only.ensures.output c.only.ensures.accepted c.only.ensures.alone c.in_ok-reported-in-Report.ensures)

pub returns-in_ok-listed-in-List : goal.returns-in_ok-listed-in-List
returns-in_ok-listed-in-List c =
    let o = c.args.order.now in
    by_work o c.args.bytes.now work.List (Ok c.only-in-List.result) c.in-List.is
    (written (Lists o.listing.exports o.listing.imports o (config_wanted o.wanted) c.args.bytes.now) c.in_ok-listed-in-List.field-0 c.only-in-List.result c.only-in-List.ensures.output c.only-in-List.ensures.accepted c.only-in-List.ensures.alone c.in_ok-listed-in-List.ensures)

pub returns-in_ok-reasoned-in-Why : goal.returns-in_ok-reasoned-in-Why
returns-in_ok-reasoned-in-Why c =
    let o = c.args.order.now in
    by_work o c.args.bytes.now work.Why (Ok c.only-in-Why.result) c.in-Why.is
    (written (TellsWhy o.listing.callers o (config_wanted o.wanted) c.args.bytes.now) c.in_ok-reasoned-in-Why.field-0 c.only-in-Why.result c.only-in-Why.ensures.output c.only-in-Why.ensures.accepted c.only-in-Why.ensures.alone c.in_ok-reasoned-in-Why.ensures)
