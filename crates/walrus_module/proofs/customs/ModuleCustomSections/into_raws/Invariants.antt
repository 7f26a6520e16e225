use Rattle.std.proofs.Common.{◌≡◌, ◌++◌, map, drop, length}
use Rattle.walrus_module.specs.Customs.{sections}
use Rattle.walrus_module.specs.Entry.{raw_in}
use Rattle.walrus_module.proofs.customs.ModuleCustomSections.into_raws.Given as goal

-- what was taken out so far, and what is still there
abbrev pub invariant-places : goal.invariant-places
invariant-places g l =
    (length (sections l.all) ≡ l.places)
    × (l.raws.items ++ map raw_in (drop l.place (sections l.all)) ≡ map raw_in (sections l.fn.self))
