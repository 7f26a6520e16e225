use Rattle.mulkavesh.proofs.RowLists.{four_behind}
use Rattle.mulkavesh.proofs.shares.add_total.Goals as goal

pub returns : goal.returns
returns c = four_behind _ _ _ _ _ _ _ _ _ c.in_ok-add_decimal.ensures c.in_ok-extend_from_slice.ensures.items c.in_ok-add_decimal-2.ensures c.in_ok-extend_from_slice-2.ensures.items
