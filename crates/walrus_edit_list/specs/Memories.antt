-- Memories whose types are written anew ("Structure > Modules > Memories").
use Rattle.std.specs.Prelude.{ℕ, Some, slice_set, ◌≡◌}
use Rattle.wasm_entries.specs.declared.record.RawLimits.{RawLimits}
use Rattle.walrus_base.specs.Arena.{item_at}
use Rattle.walrus_contents.specs.declared.parts.Contents.{Contents}
use Rattle.walrus_items.specs.Memories.{MemoryValue, memories}
use Rattle.walrus_items.specs.declared.error.Error.{Error}
use Rattle.walrus_edit_list.specs.Places.{IsGone}
use Rattle.walrus_edit_list.specs.Refuses.{Refuses}

-- the memory has this size
abbrev pub of_size : RawLimits → MemoryValue → MemoryValue
of_size l m = record m { shared = l.shared; memory64 = l.wide; initial = l.minimum; maximum = l.maximum; page_size_log2 = l.page }

-- the memory of this id has this size
pub record SetsMemory (number : ℕ) (l : RawLimits) (old new : Contents) : Type 0 where
  pub was : MemoryValue
  pub there : item_at (memories old.memories) number ≡ Some was
  pub set : memories new.memories ≡ slice_set (memories old.memories) number (Some (of_size l was))
  pub only : new ≡ record old { memories = new.memories }

-- it isn't there
abbrev pub RefusesSetMemory : ℕ → Contents → Error → Type 0
RefusesSetMemory number m e = Refuses (IsGone (memories m.memories) number) ⊥ e
