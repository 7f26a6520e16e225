-- What a contract sees of the locals of a module.
use Rattle.std.specs.Prelude.{ℕ, List, Option, Some, None, map}
use Rattle.walrus_base.specs.Id.{place}
use Rattle.walrus_base.specs.declared.id.Id.{Id}
use Rattle.walrus_base.specs.declared.keys.LocalKey.{LocalKey}
use Rattle.walrus_base.specs.declared.value.ValType.{ValType}
use Rattle.walrus_base.specs.declared.locals.Local.{Local}
use Rattle.walrus_base.specs.declared.locals.LocalIter.{LocalIter}
use Rattle.walrus_base.specs.declared.locals.ModuleLocals.{ModuleLocals}

-- the place of the local's own id
abbrev pub local_place : Local → ℕ
local_place local = local.place

abbrev pub local_type : Local → ValType
local_type local = local.ty

-- a local of this type, without a name
abbrev pub new_local : Id LocalKey → ValType → Local
new_local id ty = record { place = place id; ty = ty; name = None }

-- the local or nothing at each place from 0 on
abbrev pub locals : ModuleLocals → List (Option Local)
locals all = map Some all.places.items

-- the locals that are still to come
abbrev pub locals_left : LocalIter → List Local
locals_left left = left.rest.now
