-- What a contract sees of the marks of a module's items.
use Rattle.std.specs.Prelude.{ℕ, ◌≡◌, ◌≢◌, ◌<◌, Bool, true, false}
use Rattle.walrus_base.specs.Marks.{is_marked, mark_places}
use Rattle.walrus_base.specs.Operators.{Space, Types, Functions, Tables, Memories, Tags, Globals, Elements, DataSegments, Item}
use Rattle.walrus_model.specs.Abstract.{Abstract}
use Rattle.walrus_model.specs.Live.{IsLive}
use Rattle.walrus.specs.declared.passes.marks.MarkedItems.{MarkedItems}

-- whether the item is marked
abbrev pub has_mark : MarkedItems → Item → Bool
has_mark marks (Types, i) = is_marked marks.types i
has_mark marks (Functions, i) = is_marked marks.funcs i
has_mark marks (Tables, i) = is_marked marks.tables i
has_mark marks (Memories, i) = is_marked marks.memories i
has_mark marks (Tags, i) = is_marked marks.tags i
has_mark marks (Globals, i) = is_marked marks.globals i
has_mark marks (Elements, i) = is_marked marks.elements i
has_mark marks (DataSegments, i) = is_marked marks.data_ i

-- how many places of the kind there are marks for
abbrev pub places_for : MarkedItems → Space → ℕ
places_for marks Types = mark_places marks.types
places_for marks Functions = mark_places marks.funcs
places_for marks Tables = mark_places marks.tables
places_for marks Memories = mark_places marks.memories
places_for marks Tags = mark_places marks.tags
places_for marks Globals = mark_places marks.globals
places_for marks Elements = mark_places marks.elements
places_for marks DataSegments = mark_places marks.data_

-- there is a mark for the item
abbrev pub HasPlace : MarkedItems → Item → Type 0
HasPlace marks x = x.1 < places_for marks x.0

-- there is one for each live item
abbrev pub HavePlaces : Abstract → MarkedItems → Type 0
HavePlaces v marks = (x : Item) → IsLive v x → HasPlace marks x

-- no item is marked
abbrev pub AreUnmarked : MarkedItems → Type 0
AreUnmarked marks = (x : Item) → has_mark marks x ≡ false

-- there are marks for the same items
abbrev pub SamePlaces : MarkedItems → MarkedItems → Type 0
SamePlaces old new = (space : Space) → places_for new space ≡ places_for old space

-- the item is marked now, and else the same items are
pub record AddsMark (old new : MarkedItems) (x : Item) : Type 0 where
  pub added : has_mark new x ≡ true
  pub others : (y : Item) → y ≢ x → has_mark new y ≡ has_mark old y
  pub places : SamePlaces old new
