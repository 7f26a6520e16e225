-- What a contract sees of `ItemMarks`.
use Rattle.std.specs.Prelude.{Bool, false}
use Rattle.walrus_base.specs.Marks.{is_marked}
use Rattle.walrus_base.specs.Operators.{Types, Functions, Tables, Memories, Tags, Globals, Elements, DataSegments, Item}
use Rattle.walrus_items.specs.declared.marks.ItemMarks.{ItemMarks}

-- whether the item is marked; only items that an import can bring are
abbrev pub has_item : ItemMarks → Item → Bool
has_item marks (Functions, i) = is_marked marks.funcs.now i
has_item marks (Tables, i) = is_marked marks.tables.now i
has_item marks (Memories, i) = is_marked marks.memories.now i
has_item marks (Globals, i) = is_marked marks.globals.now i
has_item marks (Tags, i) = is_marked marks.tags.now i
has_item marks (Types, i) = false
has_item marks (Elements, i) = false
has_item marks (DataSegments, i) = false
