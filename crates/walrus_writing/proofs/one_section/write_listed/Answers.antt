use Rattle.std.proofs.Common.{◌<◌, arith}
use Rattle.std.proofs.lemmas.Bool.Decides.{nat_tests}
use Rattle.walrus_writing.proofs.AppendedRows.{lists_none, lists_some}
use Rattle.walrus_writing.proofs.one_section.write_listed.Goals as goal

pub returns-then-count-eq0 : goal.returns-then-count-eq0
returns-then-count-eq0 c = lists_none c.args.id c.args.count c.args.row.now _ c.if-count-eq0.true

pub returns : goal.returns
returns c =
    let some : 0 < c.args.count = grind (arith, nat_tests) in
    lists_some c.args.id c.args.count c.args.row.now _ _ some c.in_ok-rows_section.ensures.appends
