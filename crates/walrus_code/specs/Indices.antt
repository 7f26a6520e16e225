-- What a contract sees of the two tables between indices and ids.
use Rattle.std.specs.Prelude.{◌≡◌, ◌≢◌, ℕ, ◌+◌, ◌-◌, Bool, ◌&&◌, if◌then◌else◌, List, [], ◌∷◌, ◌++◌, Option, Some, None, map, length, slice_get, slice_index_or, nat_eq, nat_le, nat_lt}
use Rattle.std.specs.HashMap.{get}
use Rattle.std.specs.List.{range_with_len}
use Rattle.walrus_base.specs.Id.{place}
use Rattle.walrus_base.specs.Shape.{place_in}
use Rattle.walrus_base.specs.Operators.{Space, Types, Functions, Tables, Memories, Tags, Globals, Elements, DataSegments}
use Rattle.walrus_code.specs.Names.{Lookup}
use Rattle.walrus_code.specs.declared.indices.IndexSpace.{IndexSpace}
use Rattle.walrus_code.specs.declared.indices.IndicesToIds.{IndicesToIds}
use Rattle.walrus_code.specs.declared.numbering.IdsToIndices.{IdsToIndices}
use Rattle.walrus_code.specs.declared.numbering.Numbering.{Numbering}
use Rattle.walrus_code.specs.declared.local_numbers.LocalNumbers.{LocalNumbers}

-- ---- from indices to ids

-- the places of the items of one space, in the order of their indices
abbrev pub places_of : {K : Type 0} → IndexSpace K → List ℕ
places_of space = range_with_len 0 space.front ++ map place space.behind.items

-- those of each space
abbrev pub places_in : IndicesToIds → Space → List ℕ
places_in ids Types = places_of ids.types
places_in ids Functions = places_of ids.functions
places_in ids Tables = places_of ids.tables
places_in ids Memories = places_of ids.memories
places_in ids Tags = places_of ids.tags
places_in ids Globals = places_of ids.globals
places_in ids Elements = places_of ids.elements
places_in ids DataSegments = places_of ids.data_

-- the place of the item of an index
abbrev pub ids_at : IndicesToIds → Lookup
ids_at ids space index = slice_get (places_in ids space) index

-- the item at this place has the next index of its space
pub record Pushes (old new : IndicesToIds) (space : Space) (number : ℕ) : Type 0 where
  pub pushed : places_in new space ≡ places_in old space ++ number ∷ []
  pub others : (other : Space) → other ≢ space → places_in new other ≡ places_in old other

abbrev pub SamePlaces : IndicesToIds → IndicesToIds → Type 0
SamePlaces old new = (space : Space) → places_in new space ≡ places_in old space

-- ---- from ids to indices

-- the index of the item at a place, in one space
abbrev pub index_in : {K : Type 0} → Numbering K → ℕ → Option ℕ
index_in numbers number =
    if nat_lt number numbers.front then Some number else slice_index_or numbers.indices.items (number - numbers.front) None

-- how many indices of one space are given
abbrev pub given_in : {K : Type 0} → Numbering K → ℕ
given_in numbers = numbers.count

-- the item at this place has the next index
pub record AddsIndex {K : Type 0} (old new : Numbering K) (number : ℕ) : Type 0 where
  pub counted : given_in new ≡ given_in old + 1
  pub numbered : index_in new number ≡ Some (given_in old)
  pub kept : (other : ℕ) → other ≢ number → index_in new other ≡ index_in old other

-- the same indices are given
abbrev pub SameNumbering : {K : Type 0} → Numbering K → Numbering K → Type 0
SameNumbering old new = (given_in new ≡ given_in old) × ((number : ℕ) → index_in new number ≡ index_in old number)

-- the indices are those at which the items stand in this order, by their places
pub record NumbersAlong {K : Type 0} (numbers : Numbering K) (order : List ℕ) : Type 0 where
  pub counted : given_in numbers ≡ length order
  pub numbered : (number : ℕ) → index_in numbers number ≡ place_in order number

-- the index of the item at a place
abbrev pub index_of : IdsToIndices → Lookup
index_of indices Types number = index_in indices.types number
index_of indices Functions number = index_in indices.functions number
index_of indices Tables number = index_in indices.tables number
index_of indices Memories number = index_in indices.memories number
index_of indices Tags number = index_in indices.tags number
index_of indices Globals number = index_in indices.globals number
index_of indices Elements number = index_in indices.elements number
index_of indices DataSegments number = index_in indices.data_ number

-- how many indices of a space are given
abbrev pub given : IdsToIndices → Space → ℕ
given indices Types = given_in indices.types
given indices Functions = given_in indices.functions
given indices Tables = given_in indices.tables
given indices Memories = given_in indices.memories
given indices Tags = given_in indices.tags
given indices Globals = given_in indices.globals
given indices Elements = given_in indices.elements
given indices DataSegments = given_in indices.data_

-- the same indices of this space are given
abbrev pub SameIn : IdsToIndices → IdsToIndices → Space → Type 0
SameIn old new space = (given new space ≡ given old space) × ((number : ℕ) → index_of new space number ≡ index_of old space number)

-- the item at this place has the next index of its space
pub record Numbers (old new : IdsToIndices) (space : Space) (number : ℕ) : Type 0 where
  pub counted : given new space ≡ given old space + 1
  pub numbered : index_of new space number ≡ Some (given old space)
  pub kept : (other : ℕ) → other ≢ number → index_of new space other ≡ index_of old space other
  pub others : (other : Space) → other ≢ space → SameIn old new other

abbrev pub SameIndices : IdsToIndices → IdsToIndices → Type 0
SameIndices old new = (space : Space) → SameIn old new space

-- ---- the locals of a function

-- whether the window has this place
abbrev pub is_in_window : LocalNumbers → ℕ → Bool
is_in_window numbers number = nat_le numbers.first number && nat_lt (number - numbers.first) (length numbers.window.items)

-- the index of the local at a place
abbrev pub local_index : LocalNumbers → ℕ → Option ℕ
local_index numbers number =
    if is_in_window numbers number then slice_index_or numbers.window.items (number - numbers.first) None else get nat_eq numbers.outside number

-- how many indices are given
abbrev pub locals_given : LocalNumbers → ℕ
locals_given numbers = numbers.count

-- the local at this place has the next index
pub record NumbersLocal (old new : LocalNumbers) (number : ℕ) : Type 0 where
  pub counted : locals_given new ≡ locals_given old + 1
  pub numbered : local_index new number ≡ Some (locals_given old)
  pub kept : (other : ℕ) → other ≢ number → local_index new other ≡ local_index old other

-- the same indices are given
abbrev pub SameLocals : LocalNumbers → LocalNumbers → Type 0
SameLocals old new = (locals_given new ≡ locals_given old) × ((number : ℕ) → local_index new number ≡ local_index old number)
