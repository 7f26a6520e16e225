-- Types that come ("Binary Format > Modules > Type Section").
use Rattle.std.specs.Prelude.{ℕ, true, false, List, length, ◌+◌, ◌<◌, ◌^◌, ◌≡◌, ◌⊎◌, ⊤}
use Rattle.wasm_entries.specs.Record.{Group}
use Rattle.walrus_base.specs.ModuleTypes.{type_names, type_slots}
use Rattle.walrus_groups.specs.Groups.{AreDeclared, AreRead, types_from}
use Rattle.walrus_groups.specs.Reading.{AddsUnnamed}
use Rattle.walrus_items.specs.declared.error.Error.{Error}
use Rattle.walrus_items.specs.declared.error.Error.TheVariants.{InvalidWasm, Memory, TooLarge}
use Rattle.walrus_edit_list.specs.Held.{Held}

-- these groups of types came, without names, behind the others; no body was read before
pub record AddsTypes (groups : List Group) (old new : Held) : Type 0 where
  pub no_body : old.has_read ≡ false
  pub read : AreRead groups (type_slots old.contents.types) (type_slots new.contents.types)
  pub unnamed : AddsUnnamed (type_names old.contents.types) (type_names new.contents.types)
  pub others : new ≡ record old { contents = record old.contents { types = new.contents.types } }

-- they are more types than there are indices
abbrev pub PassesIndices : List Group → ℕ → Type 0
PassesIndices groups count = 2 ^ 32 < count + length (types_from count groups)

-- A body was read before, which may have added types of its own; a type names one that isn't declared before the end of its group, or has two
-- supertypes; there are more types than indices; or memory ran out.
abbrev pub RefusesTypes : List Group → Held → Error → Type 0
RefusesTypes groups old (Memory e) = ⊤
RefusesTypes groups old (InvalidWasm kind) = (old.has_read ≡ true) ⊎ (AreDeclared (length (type_slots old.contents.types)) groups → ⊥)
RefusesTypes groups old TooLarge = PassesIndices groups (length (type_slots old.contents.types))
RefusesTypes groups old _ = ⊥
