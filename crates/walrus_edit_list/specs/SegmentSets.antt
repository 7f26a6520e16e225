-- The sets of segments that tables and memories keep.
use Rattle.std.specs.Prelude.{ℕ, Bool, ◌==◌, if◌then◌else◌, List, Option, Some, None, is_some, option_map, slice_set}
use Rattle.wasm_forms.specs.Reading.{◌>>=◌}
use Rattle.walrus_base.specs.Arena.{item_at}
use Rattle.walrus_items.specs.Memories.{MemoryValue}
use Rattle.walrus_items.specs.Tables.{TableValue}
use Rattle.walrus_model.specs.Abstract.{ActiveData, ActiveElements, DataKind, DeclaredElements, ElementKind, PassiveData, PassiveElements}

-- the memory that data of this kind is active in
abbrev pub memory_in : DataKind → Option ℕ
memory_in (ActiveData memory offset) = Some memory
memory_in PassiveData = None

-- the table that elements of this kind are active in
abbrev pub table_in : ElementKind → Option ℕ
table_in (ActiveElements table offset) = Some table
table_in PassiveElements = None
table_in DeclaredElements = None

-- the set with this segment, or without it
abbrev pub with_segment : Bool → ℕ → (ℕ → Bool) → ℕ → Bool
with_segment is_in segment set e = if e == segment then is_in else set e

-- the memory, or the table, with this segment in its set, or without it
abbrev pub memory_with : Bool → ℕ → MemoryValue → MemoryValue
memory_with is_in segment m = record m { segments = with_segment is_in segment m.segments }

abbrev pub table_with : Bool → ℕ → TableValue → TableValue
table_with is_in segment t = record t { segments = with_segment is_in segment t.segments }

module _ {X : Type 0} where
  -- what stands at a place, if one is given and something stands there, is changed so
  abbrev pub changed_at : (X → X) → Option ℕ → List (Option X) → List (Option X)
  changed_at change None slots = slots
  changed_at change (Some at) slots = slice_set slots at (option_map change (item_at slots at))

  -- the place that was found, where something stands there
  abbrev pub there : List (Option X) → Option ℕ → Option ℕ
  there slots found = found >>= λ at. if is_some (item_at slots at) then Some at else None
