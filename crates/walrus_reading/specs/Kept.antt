-- How tables and memories keep the segments that are active in them, while these are read.
use Rattle.std.specs.Prelude.{ℕ, ◌+◌, Bool, ◌||◌, ◌&&◌, ◌==◌, List, [], ◌∷◌, Option, option_map, ⊤}
use Rattle.walrus_base.specs.Arena.{IsLive}
use Rattle.walrus_items.specs.Memories.{MemoryValue}
use Rattle.walrus_items.specs.Tables.{TableValue}
use Rattle.walrus_model.specs.Abstract.{ActiveData, ActiveElements, DataKind, DataSegment, DeclaredElements, Element, ElementKind, PassiveData, PassiveElements}
use Rattle.walrus_model.specs.Sections.{is_on_memory, is_on_table}

-- elements that are active are so in a table that is there
abbrev pub AreOnLive : List (Option TableValue) → ElementKind → Type 0
AreOnLive slots (ActiveElements table offset) = IsLive slots table
AreOnLive slots PassiveElements = ⊤
AreOnLive slots DeclaredElements = ⊤

-- data that is active is so in a memory that is there
abbrev pub IsOnLive : List (Option MemoryValue) → DataKind → Type 0
IsOnLive slots (ActiveData memory offset) = IsLive slots memory
IsOnLive slots PassiveData = ⊤

-- the segment of this place is kept, if so, beside those that were
abbrev pub with_segment : Bool → ℕ → (ℕ → Bool) → ℕ → Bool
with_segment too segment kept e = kept e || (too && segment == e)

-- the table, or the memory, keeps it
abbrev pub table_keeping : Bool → ℕ → TableValue → TableValue
table_keeping too segment t = record t { segments = with_segment too segment t.segments }

abbrev pub memory_keeping : Bool → ℕ → MemoryValue → MemoryValue
memory_keeping too segment m = record m { segments = with_segment too segment m.segments }

module _ {X : Type 0} (keeping : Bool → ℕ → X → X) where
  -- where these stand from this place on, those of the test keep the segment
  abbrev pub kept_from : ℕ → (ℕ → Bool) → ℕ → List (Option X) → List (Option X)
  kept_from place on segment [] = []
  kept_from place on segment (slot ∷ slots) = option_map (keeping (on place) segment) slot ∷ kept_from (place + 1) on segment slots

  -- these segments, of places from this one on, are kept one after another
  abbrev pub keep_all : {K : Type 0} → (on : ℕ → K → Bool) → ℕ → List K → List (Option X) → List (Option X)
  keep_all on segment [] slots = slots
  keep_all on segment (x ∷ xs) slots = keep_all on (segment + 1) xs (kept_from 0 (λ y. on y x) segment slots)

-- one segment is kept by its table, or by its memory
abbrev pub element_kept : ElementKind → ℕ → List (Option TableValue) → List (Option TableValue)
element_kept kind segment slots = kept_from table_keeping 0 (λ t. is_on_table t kind) segment slots

abbrev pub data_kept : DataKind → ℕ → List (Option MemoryValue) → List (Option MemoryValue)
data_kept kind segment slots = kept_from memory_keeping 0 (λ y. is_on_memory y kind) segment slots

-- and so are all of these, of places from this one on
abbrev pub elements_kept : ℕ → List Element → List (Option TableValue) → List (Option TableValue)
elements_kept segment xs slots = keep_all table_keeping (λ t x. is_on_table t x.kind) segment xs slots

abbrev pub all_data_kept : ℕ → List DataSegment → List (Option MemoryValue) → List (Option MemoryValue)
all_data_kept segment xs slots = keep_all memory_keeping (λ y x. is_on_memory y x.kind) segment xs slots
