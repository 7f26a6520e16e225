use Rattle.std.proofs.Common.{◌≡◌}
use Rattle.std.specs.Prelude.{find}
use Rattle.walrus_base.specs.Arena.{entries_left}
use Rattle.walrus_items.specs.Seen.{seen_entries}
use Rattle.walrus_items.specs.Searches.{first}
use Rattle.walrus_items.specs.Exports.{export_value, exports, is_named}
use Rattle.walrus_items.proofs.exports.«Items+ExportKey+Export».first_named.Given as goal

-- the first one is the first of those that are still to come
abbrev pub invariant-loop-id : goal.invariant-loop-id
invariant-loop-id l =
    (goal.iterator-loop-id).can_next l.id-iterator
    × (goal.iterator-loop-id).is_finite l.id-iterator
    × (first (is_named l.name) (exports l.self)
    ≡ find (λ e. is_named l.name e.1) (seen_entries export_value (entries_left l.id-iterator)))
