use Rattle.std.proofs.Common.{◌≡◌, ◌++◌, map}
use Rattle.walrus_base.specs.Arena.{items}
use Rattle.walrus_base.specs.Id.{place}
use Rattle.walrus_items.specs.Exports.{exports, exports_left}
use Rattle.walrus_contents.specs.References.{export_refs}
use Rattle.walrus_contents.proofs.references.push_exported.Given as goal

-- what was put so far and what is left to put are the whole
abbrev pub invariant-loop-export : goal.invariant-loop-export
invariant-loop-export l =
    (goal.iterator-loop-export).can_next l.export-iterator
    × (goal.iterator-loop-export).is_finite l.export-iterator
    × (map place l.to.items ++ export_refs (exports_left l.export-iterator) ≡ map place l.fn.to.items ++ export_refs (items (exports l.all)))
