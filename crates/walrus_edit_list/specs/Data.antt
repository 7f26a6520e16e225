-- Data segments that come, are written anew, or go ("Structure > Modules > Data Segments").
use Rattle.std.specs.Prelude.{ℕ, Bool, true, false, List, [], ◌∷◌, ◌++◌, length, Option, Some, None, slice_set, ◌≡◌, ◌⊎◌}
use Rattle.wasm_entries.specs.Record.{Segment}
use Rattle.wasm_forms.specs.Reading.{◌>>=◌}
use Rattle.walrus_base.specs.Arena.{item_at}
use Rattle.walrus_base.specs.Operators.{Memories}
use Rattle.walrus_code.specs.Names.{Lookup}
use Rattle.walrus_constants.specs.Named.{named_const}
use Rattle.walrus_contents.specs.View.{data_kind_of, data_of}
use Rattle.walrus_contents.specs.declared.parts.Contents.{Contents}
use Rattle.walrus_items.specs.Data.{DataValue, data_segments}
use Rattle.walrus_items.specs.Memories.{MemoryValue, memories}
use Rattle.walrus_items.specs.declared.error.Error.{Error}
use Rattle.walrus_items.specs.declared.segments.DataKind.{DataKind}
use Rattle.walrus_model.specs.Abstract.{ActiveData, DataSegment, PassiveData}
use Rattle.walrus_model.specs.Abstract as abstract
use Rattle.walrus_model.specs.Sections as said
use Rattle.walrus_edit_list.specs.Ids.{HasTooMany, ids_of}
use Rattle.walrus_edit_list.specs.Places.{IsGone}
use Rattle.walrus_edit_list.specs.Refuses.{Refuses}
use Rattle.walrus_edit_list.specs.SegmentSets.{changed_at, memory_in, memory_with, there}
use Rattle.walrus_edit_list.specs.Turns.{InTurn, RefusesOne}

module _ (names : Lookup) (slots : List (Option MemoryValue)) where
  -- how data is used, with the id for each number, where the memory is there
  abbrev pub data_kind_there : abstract.DataKind → Option abstract.DataKind
  data_kind_there PassiveData = Some PassiveData
  data_kind_there (ActiveData memory offset) = there slots (names Memories memory) >>= λ at. named_const names offset >>= λ ops. Some (ActiveData at ops)

  -- the segment so
  abbrev pub data_there : DataSegment → Option DataSegment
  data_there d = data_kind_there d.kind >>= λ kind. Some (record { kind = kind; value = d.value })

-- the memory that data of this kind is active in has the segment in its set, or hasn't
abbrev pub in_memory : Bool → abstract.DataKind → ℕ → List (Option MemoryValue) → List (Option MemoryValue)
in_memory is_in kind segment slots = changed_at (memory_with is_in segment) (memory_in kind) slots

-- what an entry says of the segments of a module; nothing where it names what isn't there
abbrev pub data_in : Contents → Segment → Option DataSegment
data_in m d = data_there (ids_of m) (memories m.memories) (said.data_of d)

-- a segment that an entry says stands behind the others, and is in the set of its memory
pub record AddsSegment (d : Segment) (old new : Contents) : Type 0 where
  pub value : DataValue
  pub says : data_in old d ≡ Some (data_of value)
  pub own_id : value.id ≡ length (data_segments old.data_)
  pub unnamed : value.name ≡ None
  pub comes : data_segments new.data_ ≡ data_segments old.data_ ++ Some value ∷ []
  pub kept : memories new.memories ≡ in_memory true (data_kind_of value.kind) value.id (memories old.memories)
  pub only : new ≡ record old { data_ = new.data_; memories = new.memories }

-- it names what isn't there
abbrev pub RefusesSegment : Segment → Contents → Error → Type 0
RefusesSegment d m e = Refuses (data_in m d ≡ None) (HasTooMany m) e

-- each of these came, one behind the other
abbrev pub AddsData : List Segment → (old new : Contents) → Type 0
AddsData ds old new = InTurn AddsSegment ds old new

abbrev pub RefusesData : List Segment → Contents → Error → Type 0
RefusesData ds m e = RefusesOne AddsSegment RefusesSegment ds m e

-- the segment with this kind and these bytes
abbrev pub with_data : DataKind → List ℕ → DataValue → DataValue
with_data kind value d = record d { kind = kind; value = value }

-- the segment of this id is what an entry says, and has its name; it is in the set of its memory then, and not in that of the one before
pub record SetsData (number : ℕ) (d : Segment) (old new : Contents) : Type 0 where
  pub was : DataValue
  pub stood : item_at (data_segments old.data_) number ≡ Some was
  pub value : DataValue
  pub says : data_in old d ≡ Some (data_of value)
  pub stays : (value.id ≡ was.id) × (value.name ≡ was.name)
  pub set : data_segments new.data_ ≡ slice_set (data_segments old.data_) number (Some value)
  pub kept : memories new.memories ≡ in_memory true (data_kind_of value.kind) number (in_memory false (data_kind_of was.kind) number (memories old.memories))
  pub only : new ≡ record old { data_ = new.data_; memories = new.memories }

-- it isn't there, or the entry names what isn't
abbrev pub RefusesSetData : ℕ → Segment → Contents → Error → Type 0
RefusesSetData number d m e = Refuses (IsGone (data_segments m.data_) number ⊎ (data_in m d ≡ None)) (HasTooMany m) e

-- the segment of this id is gone, and in no set of a memory that it was active in
pub record DeletesData (number : ℕ) (old new : Contents) : Type 0 where
  pub was : DataValue
  pub stood : item_at (data_segments old.data_) number ≡ Some was
  pub gone : data_segments new.data_ ≡ slice_set (data_segments old.data_) number None
  pub freed : memories new.memories ≡ in_memory false (data_kind_of was.kind) number (memories old.memories)
  pub only : new ≡ record old { data_ = new.data_; memories = new.memories }

-- it isn't there
abbrev pub RefusesDeleteData : ℕ → Contents → Error → Type 0
RefusesDeleteData number m e = Refuses (IsGone (data_segments m.data_) number) ⊥ e
