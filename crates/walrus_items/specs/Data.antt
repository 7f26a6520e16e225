-- What a contract sees of the data segments of a module ("Structure > Modules > Data Segments").
use Rattle.std.specs.Prelude.{ℕ, Bool, true, false, List, Option}
use Rattle.walrus_base.specs.Id.{place}
use Rattle.walrus_base.specs.declared.keys.DataKey.{DataKey}
use Rattle.walrus_items.specs.Seen.{text_of}
use Rattle.walrus_items.specs.Held.{held, held_left, held_entries_left}
use Rattle.walrus_items.specs.declared.items.Items.{Items}
use Rattle.walrus_items.specs.declared.items.ItemIter.{ItemIter}
use Rattle.walrus_items.specs.declared.items.ItemEntries.{ItemEntries}
use Rattle.walrus_items.specs.declared.data.Data.{Data}
use Rattle.walrus_items.specs.declared.segments.DataKind.{DataKind}
use Rattle.walrus_items.specs.declared.segments.DataKind.TheVariants.{Active, Passive}

-- the place of a segment's own id, how it is used, its bytes, and the bytes of its name
pub record DataValue : Type 0 where
  pub id : ℕ
  pub kind : DataKind
  pub value : List ℕ
  pub name : Option (List ℕ)

abbrev pub data_value : Data → DataValue
data_value d = record { id = place d.id; kind = d.kind; value = d.value.items; name = text_of d.name }

-- the segment is copied by operators alone
abbrev pub is_passive_data : DataKind → Bool
is_passive_data (Active memory offset) = false
is_passive_data Passive = true

abbrev pub ModuleData : Type 0
ModuleData = Items DataKey Data

-- the segment or nothing at each place from 0 on
abbrev pub data_segments : ModuleData → List (Option DataValue)
data_segments all = held data_value all

-- the segments that are still to come
abbrev pub data_segments_left : ItemIter DataKey Data → List DataValue
data_segments_left left = held_left data_value left

-- the segments that are still to come, with their places
abbrev pub data_segment_entries_left : ItemEntries DataKey Data → List (ℕ × DataValue)
data_segment_entries_left left = held_entries_left data_value left
