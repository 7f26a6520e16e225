use Rattle.std.proofs.Common.{◌≡◌}
use Rattle.std.specs.Prelude.{find}
use Rattle.walrus.specs.Items.Exports.{export_entries_left, exports, is_named}
use Rattle.walrus_tools.specs.ExportNames.{named}
use Rattle.walrus_tools.proofs.item_meaning.exported_as.Given as goal

-- the first one is the first of those that are still to come
abbrev pub invariant-exports : goal.invariant-exports
invariant-exports l =
    goal.iterator-exports.can_next l.export-iterator
    × goal.iterator-exports.is_finite l.export-iterator
    × (named l.name (exports l.all) ≡ find (λ e. is_named l.name e.1) (export_entries_left l.export-iterator))
