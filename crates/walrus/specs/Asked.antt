-- What the custom sections of a module ask to keep, as a search for used items takes it.
use Rattle.std.specs.Prelude.{List, ◌++◌, map}
use Rattle.walrus_base.specs.Operators.{Functions, Tables, Memories, Tags, Globals, Item}
use Rattle.walrus_items.specs.Roots.{RootLists}
use Rattle.walrus_model.specs.Abstract.{Abstract}
use Rattle.walrus_contents.specs.View.{parts_view}
use Rattle.walrus.specs.declared.passes.used.Searched.{Searched}

-- the items that are asked for, kind by kind
abbrev pub asked_items : RootLists → List Item
asked_items r =
    map (λ i. (Functions, i)) r.funcs ++ map (λ i. (Tables, i)) r.tables ++ map (λ i. (Memories, i)) r.memories
    ++ map (λ i. (Tags, i)) r.tags ++ map (λ i. (Globals, i)) r.globals

-- the module that is searched: these parts, and that these items are asked for
abbrev pub searched_view : Searched → Abstract
searched_view s = record (parts_view s.parts) { section_roots = asked_items s.asked.now }
