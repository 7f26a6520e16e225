use Rattle.mulkavesh.proofs.RowLists.{all_lines, line_more}
use Rattle.mulkavesh.proofs.rows.add_lines.Goals as goal

pub rows-preserved : goal.rows-preserved
rows-preserved g c =
    line_more g.T.Row.line c.args.rows.now c.rows.row-index _ _ c.rows-test.true c.row-item.is _ _ _ c.rows.invariant c.in_ok-add_line.ensures

pub returns : goal.returns
returns g c = all_lines g.T.Row.line c.args.rows.now c.rows.row-index c.rows-test.false _ _ c.rows.invariant
