-- The order in which items are written, as the plan of a module.
use Rattle.std.specs.Prelude.{map, ◌++◌}
use Rattle.walrus_base.specs.Id.{place}
use Rattle.walrus_base.specs.Operators.{Types, Functions, Tables, Memories, Tags, Globals, Elements, DataSegments}
use Rattle.walrus_base.specs.Arena.{entries}
use Rattle.walrus_contents.specs.declared.parts.Parts.{Parts}
use Rattle.walrus_items.specs.Globals.{globals}
use Rattle.walrus_items.specs.Memories.{memories}
use Rattle.walrus_items.specs.Tables.{tables}
use Rattle.walrus_items.specs.Tags.{tags}
use Rattle.walrus_model.specs.Plan as model
use Rattle.walrus_plan.specs.Brought.{own_places}
use Rattle.walrus_plan.specs.declared.plan.Plan.{Plan}

-- the places of each space in the order of their indices
abbrev pub places : Plan → model.Plan
places p Types = map place p.types.items
places p Functions = map place p.brought_functions.items ++ map place p.own_functions.items
places p Tables = map place p.tables.items
places p Memories = map place p.memories.items
places p Tags = map place p.tags.items
places p Globals = map place p.globals.items
places p Elements = map place p.elements.items
places p DataSegments = map place p.data_.items

-- those of the items that the module defines; all types and all segments are
abbrev pub places_own : Parts → Plan → model.Plan
places_own parts p Types = map place p.types.items
places_own parts p Functions = map place p.own_functions.items
places_own parts p Tables = own_places (λ t. t.imported_by) (entries (tables parts.tables.now))
places_own parts p Memories = own_places (λ m. m.imported_by) (entries (memories parts.memories.now))
places_own parts p Tags = own_places (λ t. t.imported_by) (entries (tags parts.tags.now))
places_own parts p Globals = own_places (λ g. g.imported_by) (entries (globals parts.globals.now))
places_own parts p Elements = map place p.elements.items
places_own parts p DataSegments = map place p.data_.items
