use Rattle.std.proofs.Common.{map}
use Rattle.walrus_base.specs.Arena.{items}
use Rattle.walrus_base.specs.Id.{place}
use Rattle.walrus_base.specs.Operators.{Functions, Tables, Memories, Tags, Globals}
use Rattle.walrus_items.specs.Imports.{imports, imports_left}
use Rattle.walrus_plan.proofs.BroughtBy.{Comes}
use Rattle.walrus_plan.proofs.by_import.brought_ids.Given as goal

-- in each space the places so far, and those that the imports still to come bring
abbrev pub invariant-imports : goal.invariant-imports
invariant-imports l =
    goal.iterator-imports.can_next l.import-iterator
    × goal.iterator-imports.is_finite l.import-iterator
    × Comes Functions (map place l.ids.functions.items) (imports_left l.import-iterator) (items (imports l.all))
    × Comes Tables (map place l.ids.tables.items) (imports_left l.import-iterator) (items (imports l.all))
    × Comes Memories (map place l.ids.memories.items) (imports_left l.import-iterator) (items (imports l.all))
    × Comes Tags (map place l.ids.tags.items) (imports_left l.import-iterator) (items (imports l.all))
    × Comes Globals (map place l.ids.globals.items) (imports_left l.import-iterator) (items (imports l.all))
