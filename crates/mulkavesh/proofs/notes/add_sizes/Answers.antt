use Rattle.mulkavesh.proofs.RowLists.{five_behind}
use Rattle.mulkavesh.proofs.notes.add_sizes.Goals as goal

pub returns : goal.returns
returns c = five_behind _ _ _ _ _ _ _ _ _ _ _ c.in_ok-extend_from_slice.ensures.items c.in_ok-add_grouped.ensures c.in_ok-extend_from_slice-2.ensures.items c.in_ok-add_grouped-2.ensures c.in_ok-extend_from_slice-3.ensures.items
