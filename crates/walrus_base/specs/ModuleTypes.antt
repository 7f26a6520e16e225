-- What a contract sees of a `ModuleTypes`.
use Rattle.std.specs.Prelude.{ℕ, List, Option}
use Rattle.walrus_base.specs.TypeDef.{TypeDef}
use Rattle.walrus_base.specs.TypeSlots.{defs, names}
use Rattle.walrus_base.specs.declared.module_types.ModuleTypes.{ModuleTypes}

-- the type or nothing at each place from 0 on
abbrev pub type_slots : ModuleTypes → List (Option TypeDef)
type_slots types = defs types.places.items

-- the name of the type, if it has one, or nothing at each place from 0 on
abbrev pub type_names : ModuleTypes → List (Option (Option (List ℕ)))
type_names types = names types.places.items
