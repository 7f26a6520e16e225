use Rattle.std.proofs.Common.{◌≡◌, ◌++◌, List}
use Rattle.walrus.specs.Base.Arena.{items}
use Rattle.walrus.specs.Items.Exports.{ExportValue, exports, exports_left}
use Rattle.walrus_tools.specs.LinkSteps.{GroupsExports}
use Rattle.walrus_tools.proofs.export_groups.groups_of.Given as goal

-- the exports so far are grouped, and the others are still to come
abbrev pub invariant-exports : goal.invariant-exports
invariant-exports l =
    goal.iterator-exports.can_next l.export-iterator
    × goal.iterator-exports.is_finite l.export-iterator
    × ((done : List ExportValue) × (done ++ exports_left l.export-iterator ≡ items (exports l.all)) × GroupsExports done l.groups)
