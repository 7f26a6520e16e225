use Rattle.mulkavesh.proofs.RowLists.{text_more}
use Rattle.mulkavesh.proofs.rows.add_objects.Goals as goal

pub rows-preserved : goal.rows-preserved
rows-preserved g c =
    text_more g.T.Row.object c.args.comma.now c.args.rows.now c.rows.place _ _ c.rows-test.true c.index-rows-place.is _ _ _ _ c.rows.invariant c.in_ok-add_comma.ensures c.in_ok-add_object.ensures
