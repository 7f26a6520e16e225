use Rattle.std.proofs.Common.{◌≡◌}
use Rattle.std.specs.Prelude.{find}
use Rattle.walrus_base.specs.Id.{place}
use Rattle.walrus_base.specs.Operators.{function_item}
use Rattle.walrus_base.specs.Arena.{entries_left}
use Rattle.walrus_items.specs.Seen.{seen_entries}
use Rattle.walrus_items.specs.Searches.{first}
use Rattle.walrus_items.specs.Imports.{import_value, imports, imports_item}
use Rattle.walrus_items.proofs.imports.«Items+ImportKey+Import».get_imported_func.Given as goal

-- the first one is the first of those that are still to come
abbrev pub invariant-loop-import : goal.invariant-loop-import
invariant-loop-import l =
    (goal.iterator-loop-import).can_next l.import-iterator
    × (goal.iterator-loop-import).is_finite l.import-iterator
    × (first (imports_item (function_item (place l.id))) (imports l.self)
    ≡ find (λ e. imports_item (function_item (place l.id)) e.1) (seen_entries import_value (entries_left l.import-iterator)))
