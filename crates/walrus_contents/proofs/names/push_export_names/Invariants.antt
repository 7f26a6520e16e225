use Rattle.std.proofs.Common.{◌≡◌, ◌++◌, map}
use Rattle.walrus_items.specs.Kinds.{exported}
use Rattle.walrus_items.specs.Exports.{exports_left}
use Rattle.walrus_contents.specs.Named.{export_names, items_in}
use Rattle.walrus_contents.proofs.names.push_export_names.Given as goal

-- what was put so far and what the exports to come name are the whole
abbrev pub invariant-loop-export : goal.invariant-loop-export
invariant-loop-export l =
    (goal.iterator-loop-export).can_next l.export-iterator
    × (goal.iterator-loop-export).is_finite l.export-iterator
    × (items_in l.to ++ map (λ e. exported e.item) (exports_left l.export-iterator) ≡ items_in l.fn.to ++ export_names l.exports)
