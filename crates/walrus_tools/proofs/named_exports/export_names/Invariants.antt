use Rattle.std.proofs.Common.{◌≡◌, ◌++◌, map}
use Rattle.walrus.specs.Items.Exports.{exports, exports_left}
use Rattle.walrus_tools.specs.KeptExports.{export_names}
use Rattle.walrus_sections.specs.NameLists.{texts}
use Rattle.walrus_tools.proofs.named_exports.export_names.Given as goal

-- the names so far, and those that are still to come
abbrev pub invariant-exports : goal.invariant-exports
invariant-exports l =
    goal.iterator-exports.can_next l.export-iterator
    × goal.iterator-exports.is_finite l.export-iterator
    × (texts l.names.items ++ map (λ e. e.name) (exports_left l.export-iterator) ≡ export_names (exports l.all))
