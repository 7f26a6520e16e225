use Rattle.std.proofs.Common.{◌≡◌, ◌++◌, drop, map}
use Rattle.walrus.specs.Base.Id.{place}
use Rattle.walrus.specs.Base.ModuleTypes.{type_names}
use Rattle.walrus_edits.specs.ItemSteps.{name_told}
use Rattle.walrus_edits.specs.ItemValues.{type_names_in}
use Rattle.walrus_edits.proofs.name_records.push_type_names.Given as goal

-- the names so far, and those of the types that are left
abbrev pub invariant-types : goal.invariant-types
invariant-types l = map name_told l.to.items ++ type_names_in (type_names l.types) (map place (drop l.id-index l.id-items)) ≡ map name_told l.fn.to.items ++ type_names_in (type_names l.types) (map place l.id-items)
