use Rattle.std.proofs.Common.{◌≡◌, ◌++◌}
use Rattle.std.specs.Vec.Iter.{into_iter_items}
use Rattle.walrus_module.specs.Customs.{sections}
use Rattle.walrus_module.specs.Raws.{raw_sections}
use Rattle.walrus_module.proofs.customs.ModuleCustomSections.keeping.Given as goal

-- the sections so far, and those that are still to come
abbrev pub invariant-raws : goal.invariant-raws
invariant-raws g l =
    (goal.iterator-raws g).can_next l.raw-iterator
    × (goal.iterator-raws g).is_finite l.raw-iterator
    × (sections l.all ++ raw_sections (into_iter_items l.raw-iterator) ≡ raw_sections l.fn.raws.items)
