use Rattle.mulkavesh.proofs.RowLists.{seven_behind}
use Rattle.mulkavesh.proofs.reports.add_kinds.Goals as goal

pub returns : goal.returns
returns c =
    seven_behind _ _ _ _ _ _ _ _ _ _ _ _ _ _ _ c.in_ok-add_kind.ensures c.in_ok-add_kind-2.ensures c.in_ok-add_kind-3.ensures c.in_ok-add_kind-4.ensures c.in_ok-add_kind-5.ensures
    c.in_ok-add_kind-6.ensures c.in_ok-add_kind-7.ensures
