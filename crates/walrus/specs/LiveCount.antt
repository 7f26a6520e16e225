-- How many items and places a module's collections hold.
use Rattle.std.specs.Prelude.{ℕ, ◌+◌, length, count_by, is_some}
use Rattle.walrus_base.specs.ModuleTypes.{type_slots}
use Rattle.walrus_items.specs.Data.{data_segments}
use Rattle.walrus_items.specs.Elements.{elements}
use Rattle.walrus_items.specs.Functions.{functions}
use Rattle.walrus_items.specs.Globals.{globals}
use Rattle.walrus_items.specs.Memories.{memories}
use Rattle.walrus_items.specs.Tables.{tables}
use Rattle.walrus_items.specs.Tags.{tags}
use Rattle.walrus_contents.specs.declared.parts.Contents.{Contents}

-- those of the eight collections together
abbrev pub live_count : Contents → ℕ
live_count c =
    count_by is_some (type_slots c.types) + count_by is_some (functions c.funcs) + count_by is_some (tables c.tables)
    + count_by is_some (memories c.memories) + count_by is_some (tags c.tags) + count_by is_some (globals c.globals)
    + count_by is_some (elements c.elements) + count_by is_some (data_segments c.data_)

-- the places of the eight together, those of deleted items among them
abbrev pub place_count : Contents → ℕ
place_count c =
    length (type_slots c.types) + length (functions c.funcs) + length (tables c.tables) + length (memories c.memories) + length (tags c.tags)
    + length (globals c.globals) + length (elements c.elements) + length (data_segments c.data_)
