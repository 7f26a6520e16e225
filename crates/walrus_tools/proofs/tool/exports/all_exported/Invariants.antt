use Rattle.std.proofs.Common.{◌≡◌, ◌++◌, map}
use Rattle.walrus.specs.Base.Arena.{items}
use Rattle.walrus.specs.Items.Exports.{exports, exports_left}
use Rattle.walrus_tools.specs.ExportList.{export_told, exported_seen}
use Rattle.walrus_tools.proofs.tool.exports.all_exported.Given as goal

-- those told so far, and those that are still to come
abbrev pub invariant-exports : goal.invariant-exports
invariant-exports l =
    goal.iterator-exports.can_next l.export-iterator
    × goal.iterator-exports.is_finite l.export-iterator
    × (map exported_seen l.list.items ++ map export_told (exports_left l.export-iterator) ≡ map export_told (items (exports l.all)))
