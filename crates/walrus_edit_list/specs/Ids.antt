-- Each id of a module by its number ("Structure > Modules > Indices"): where wasm has an index, an edit has an id.
use Rattle.std.specs.Prelude.{ℕ, ◌<◌, ◌^◌, length, map, slice_get, Option}
use Rattle.walrus_base.specs.Arena.{items}
use Rattle.walrus_base.specs.ModuleTypes.{type_slots}
use Rattle.walrus_base.specs.Operators.{Space}
use Rattle.walrus_code.specs.Names.{Lookup}
use Rattle.walrus_contents.specs.declared.parts.Contents.{Contents}
use Rattle.walrus_items.specs.Tags.{ModuleTags, tags}
use Rattle.walrus_model.specs.Reads.{below}
use Rattle.walrus_module.specs.OnParse.{index_count}

-- how many ids of a space were given, those of what is gone among them
abbrev pub given : Contents → Space → ℕ
given m space = index_count (length (type_slots m.types)) m space

-- the id of each number, where it was given
abbrev pub ids_of : Contents → Lookup
ids_of m space = below (given m space)

-- of a space more ids were given than there are indices
abbrev pub HasTooMany : Contents → Type 0
HasTooMany m = (space : Space) × (2 ^ 32 < given m space)

-- the type of each tag, by its number, where none is gone
abbrev pub tag_types : ModuleTags → ℕ → Option ℕ
tag_types all number = slice_get (map (λ t. t.ty) (items (tags all))) number
