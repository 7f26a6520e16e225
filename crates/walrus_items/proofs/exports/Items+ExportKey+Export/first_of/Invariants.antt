use Rattle.std.proofs.Common.{◌≡◌}
use Rattle.std.specs.Prelude.{find}
use Rattle.walrus_base.specs.Arena.{entries_left}
use Rattle.walrus_items.specs.Seen.{seen_entries}
use Rattle.walrus_items.specs.Searches.{first}
use Rattle.walrus_items.specs.Kinds.{exported}
use Rattle.walrus_items.specs.Exports.{export_value, exports, exports_item}
use Rattle.walrus_items.proofs.exports.«Items+ExportKey+Export».first_of.Given as goal

-- the first one is the first of those that are still to come
abbrev pub invariant-loop-export : goal.invariant-loop-export
invariant-loop-export l =
    (goal.iterator-loop-export).can_next l.export-iterator
    × (goal.iterator-loop-export).is_finite l.export-iterator
    × (first (exports_item (exported l.item)) (exports l.self)
    ≡ find (λ e. exports_item (exported l.item) e.1) (seen_entries export_value (entries_left l.export-iterator)))
