use Rattle.std.proofs.Common.{◌≡◌}
use Rattle.std.specs.Prelude.{find}
use Rattle.walrus_base.specs.Arena.{entries_left}
use Rattle.walrus_items.specs.Seen.{seen_entries}
use Rattle.walrus_items.specs.Searches.{first}
use Rattle.walrus_items.specs.Exports.{export_value, exports, is_function_named}
use Rattle.walrus_items.proofs.exports.«Items+ExportKey+Export».get_func.Given as goal

-- the first one is the first of those that are still to come
abbrev pub invariant-loop-export : goal.invariant-loop-export
invariant-loop-export l =
    (goal.iterator-loop-export).can_next l.export-iterator
    × (goal.iterator-loop-export).is_finite l.export-iterator
    × (first (is_function_named l.name) (exports l.self)
    ≡ find (λ e. is_function_named l.name e.1) (seen_entries export_value (entries_left l.export-iterator)))
