-- What a contract sees of the element segments of a module ("Structure > Modules > Element Segments").
use Rattle.std.specs.Prelude.{ℕ, List, Option}
use Rattle.walrus_base.specs.Id.{place}
use Rattle.walrus_base.specs.declared.keys.ElementKey.{ElementKey}
use Rattle.walrus_items.specs.Seen.{text_of}
use Rattle.walrus_items.specs.Held.{held, held_left, held_entries_left}
use Rattle.walrus_items.specs.declared.items.Items.{Items}
use Rattle.walrus_items.specs.declared.items.ItemIter.{ItemIter}
use Rattle.walrus_items.specs.declared.items.ItemEntries.{ItemEntries}
use Rattle.walrus_items.specs.declared.elements.Element.{Element}
use Rattle.walrus_items.specs.declared.segments.ElementKind.{ElementKind}
use Rattle.walrus_items.specs.declared.segments.ElementItems.{ElementItems}

-- the place of a segment's own id, how it is used, what it holds, and the bytes of its name
pub record ElementValue : Type 0 where
  pub id : ℕ
  pub kind : ElementKind
  pub items : ElementItems
  pub name : Option (List ℕ)

abbrev pub element_value : Element → ElementValue
element_value e = record { id = place e.id; kind = e.kind; items = e.items; name = text_of e.name }

abbrev pub ModuleElements : Type 0
ModuleElements = Items ElementKey Element

-- the segment or nothing at each place from 0 on
abbrev pub elements : ModuleElements → List (Option ElementValue)
elements all = held element_value all

-- the segments that are still to come
abbrev pub elements_left : ItemIter ElementKey Element → List ElementValue
elements_left left = held_left element_value left

-- the segments that are still to come, with their places
abbrev pub element_entries_left : ItemEntries ElementKey Element → List (ℕ × ElementValue)
element_entries_left left = held_entries_left element_value left
