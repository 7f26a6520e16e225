-- The groups of a module's types.
use Rattle.std.specs.Prelude.{◌<◌, ◌^◌, ⊤, length, map, Result, Ok, Err}
use Rattle.std.specs.Global.{Vec}
use Rattle.walrus.specs.Base.Arena.{items, live_places}
use Rattle.walrus.specs.Base.ModuleTypes.{type_slots}
use Rattle.walrus.specs.Base.ModuleTypesValue.{ModuleTypes}
use Rattle.walrus_groups.specs.Indexed.{HasExact, LacksAnIndex, NumbersTypes}
use Rattle.walrus.specs.Code.Names.{Lookup}
use Rattle.walrus.specs.Items.Error.{Error}
use Rattle.walrus.specs.Items.Error.TheVariants.{Memory, NoIndex, NotWritable, TooLarge}
use Rattle.wasm_entries.specs.Record.{group}
use Rattle.wasm_entries.specs.declared.record.RawSub.{RawSub}
use Rattle.walrus_edits.specs.ItemValues.{AreGroups}

-- a type names one that isn't there
pub record NamesNone (types : ModuleTypes) : Type 0 where
  pub names : Lookup
  pub numbered : NumbersTypes names (type_slots types)
  pub lacks : LacksAnIndex names (items (type_slots types))

-- these are the groups; refused: there are more than 2 ^ 32 types, one names what isn't there or an exact heap type, or memory ran out
abbrev pub GroupsTypes : ModuleTypes → Result (Vec (Vec RawSub)) Error → Type 0
GroupsTypes types (Ok groups) = AreGroups types (map group groups.items)
GroupsTypes types (Err (Memory e)) = ⊤
GroupsTypes types (Err TooLarge) = 2 ^ 32 < length (live_places (type_slots types))
GroupsTypes types (Err NoIndex) = NamesNone types
GroupsTypes types (Err NotWritable) = HasExact (items (type_slots types))
GroupsTypes types (Err _) = ⊥
