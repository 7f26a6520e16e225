use Rattle.std.proofs.Common.{◌≡◌}
use Rattle.std.specs.Prelude.{find}
use Rattle.walrus_base.specs.Arena.{entries_left}
use Rattle.walrus_items.specs.Seen.{seen_entries}
use Rattle.walrus_items.specs.Searches.{first}
use Rattle.walrus_items.specs.Imports.{import_value, imports, is_function_of}
use Rattle.walrus_items.proofs.imports.«Items+ImportKey+Import».get_func.Given as goal

-- the first one is the first of those that are still to come
abbrev pub invariant-loop-import : goal.invariant-loop-import
invariant-loop-import l =
    (goal.iterator-loop-import).can_next l.import-iterator
    × (goal.iterator-loop-import).is_finite l.import-iterator
    × (first (is_function_of l.«module» l.name) (imports l.self)
    ≡ find (λ e. is_function_of l.«module» l.name e.1) (seen_entries import_value (entries_left l.import-iterator)))
