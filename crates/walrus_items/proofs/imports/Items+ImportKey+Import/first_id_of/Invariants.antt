use Rattle.std.proofs.Common.{◌≡◌}
use Rattle.std.specs.Prelude.{find}
use Rattle.walrus_base.specs.Arena.{entries_left}
use Rattle.walrus_items.specs.Seen.{seen_entries}
use Rattle.walrus_items.specs.Searches.{first}
use Rattle.walrus_items.specs.Kinds.{imported}
use Rattle.walrus_items.specs.Imports.{import_value, imports, imports_item}
use Rattle.walrus_items.proofs.imports.«Items+ImportKey+Import».first_id_of.Given as goal

-- the first one is the first of those that are still to come
abbrev pub invariant-loop-at : goal.invariant-loop-at
invariant-loop-at l =
    (goal.iterator-loop-at).can_next l.at-iterator
    × (goal.iterator-loop-at).is_finite l.at-iterator
    × (first (imports_item (imported l.kind)) (imports l.self)
    ≡ find (λ e. imports_item (imported l.kind) e.1) (seen_entries import_value (entries_left l.at-iterator)))
