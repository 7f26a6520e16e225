use Rattle.std.proofs.Common.{◌≡◌, ◌++◌, map}
use Rattle.walrus.specs.Base.Arena.{items}
use Rattle.walrus.specs.Items.Imports.{imports, imports_left}
use Rattle.walrus_tools.specs.ImportList.{import_told, imported_seen}
use Rattle.walrus_tools.proofs.tool.imports.all_imported.Given as goal

-- those told so far, and those that are still to come
abbrev pub invariant-imports : goal.invariant-imports
invariant-imports l =
    goal.iterator-imports.can_next l.import-iterator
    × goal.iterator-imports.is_finite l.import-iterator
    × (map imported_seen l.list.items ++ map import_told (imports_left l.import-iterator) ≡ map import_told (items (imports l.all)))
