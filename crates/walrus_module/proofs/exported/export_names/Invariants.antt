use Rattle.std.proofs.Common.{◌≡◌, ◌++◌, map}
use Rattle.walrus_base.specs.Arena.{items}
use Rattle.walrus_items.specs.Exports.{exports, exports_left}
use Rattle.walrus_module.proofs.exported.export_names.Given as goal

-- the names so far, and those that are still to come
abbrev pub invariant-loop-export : goal.invariant-loop-export
invariant-loop-export l =
    goal.iterator-loop-export.can_next l.export-iterator
    × goal.iterator-loop-export.is_finite l.export-iterator
    × (map (λ n. n.now) l.names.items ++ map (λ e. e.name) (exports_left l.export-iterator) ≡ map (λ e. e.name) (items (exports l.all)))
