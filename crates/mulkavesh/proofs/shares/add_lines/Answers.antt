use Rattle.mulkavesh.specs.Entries.{share_line}
use Rattle.mulkavesh.proofs.RowLists.{all_lines, line_more}
use Rattle.mulkavesh.proofs.shares.add_lines.Goals as goal

pub functions-preserved : goal.functions-preserved
functions-preserved c =
    line_more (share_line c.args.total) c.args.functions.now c.functions.function-index _ _ c.functions-test.true c.function-item.is _ _ _ c.functions.invariant c.in_ok-add_line.ensures

pub returns : goal.returns
returns c = all_lines (share_line c.args.total) c.args.functions.now c.functions.function-index c.functions-test.false _ _ c.functions.invariant
