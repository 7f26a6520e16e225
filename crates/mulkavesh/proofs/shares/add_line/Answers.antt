use Rattle.mulkavesh.proofs.RowLists.{seven_behind}
use Rattle.mulkavesh.proofs.shares.add_line.Goals as goal

pub returns : goal.returns
returns c =
    seven_behind _ _ _ _ _ _ _ _ _ _ _ _ _ _ _ c.in_ok-add_decimal.ensures c.in_ok-push.ensures.items c.in_ok-add_share.ensures c.in_ok-push-2.ensures.items c.in_ok-add_decimal-2.ensures
    c.in_ok-add_name.ensures c.in_ok-push-3.ensures.items
