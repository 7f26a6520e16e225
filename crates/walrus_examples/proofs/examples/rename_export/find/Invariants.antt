use Rattle.std.proofs.Common.{◌≡◌}
use Rattle.std.specs.Prelude.{find}
use Rattle.walrus.specs.Items.Exports.{export_entries_left, exports, is_named}
use Rattle.walrus.specs.Items.Searches.{first}
use Rattle.walrus_examples.proofs.examples.rename_export.find.Given as goal

-- the first one is the first of those that are still to come
abbrev pub invariant-loop-at : goal.invariant-loop-at
invariant-loop-at l =
    (goal.iterator-loop-at).can_next l.at-iterator
    × (goal.iterator-loop-at).is_finite l.at-iterator
    × (first (is_named l.name) (exports l.all) ≡ find (λ e. is_named l.name e.1) (export_entries_left l.at-iterator))
