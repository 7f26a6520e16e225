use Rattle.std.proofs.Common.{◌≡◌}
use Rattle.std.specs.Prelude.{find}
use Rattle.walrus_base.specs.Arena.{entries_left}
use Rattle.walrus_items.specs.Seen.{seen_entries}
use Rattle.walrus_items.specs.Searches.{first}
use Rattle.walrus_items.specs.Imports.{import_value, imports, is_import_of}
use Rattle.walrus_items.proofs.imports.«Items+ImportKey+Import».find.Given as goal

-- the first one is the first of those that are still to come
abbrev pub invariant-loop-id : goal.invariant-loop-id
invariant-loop-id l =
    (goal.iterator-loop-id).can_next l.id-iterator
    × (goal.iterator-loop-id).is_finite l.id-iterator
    × (first (is_import_of l.«module» l.name) (imports l.self)
    ≡ find (λ e. is_import_of l.«module» l.name e.1) (seen_entries import_value (entries_left l.id-iterator)))
