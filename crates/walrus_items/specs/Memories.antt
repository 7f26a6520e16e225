-- What a contract sees of the memories of a module ("Structure > Modules > Memories").
use Rattle.std.specs.Prelude.{ℕ, Bool, List, Option, option_map}
use Rattle.walrus_base.specs.Id.{place}
use Rattle.walrus_base.specs.declared.keys.MemoryKey.{MemoryKey}
use Rattle.walrus_base.specs.IdSet.{has_id}
use Rattle.walrus_items.specs.Seen.{text_of}
use Rattle.walrus_items.specs.Held.{held, held_left, held_entries_left}
use Rattle.walrus_items.specs.declared.items.Items.{Items}
use Rattle.walrus_items.specs.declared.items.ItemIter.{ItemIter}
use Rattle.walrus_items.specs.declared.items.ItemEntries.{ItemEntries}
use Rattle.walrus_items.specs.declared.memories.Memory.{Memory}

-- The place of a memory's own id, its flags, its limits in pages, the exponent of its page size, the place of the import that brings
-- it, which data segments it keeps, by their places, and the bytes of its name.
pub record MemoryValue : Type 0 where
  pub id : ℕ
  pub shared : Bool
  pub memory64 : Bool
  pub initial : ℕ
  pub maximum : Option ℕ
  pub page_size_log2 : Option ℕ
  pub imported_by : Option ℕ
  pub segments : ℕ → Bool
  pub name : Option (List ℕ)

abbrev pub memory_value : Memory → MemoryValue
memory_value m = record {
  id = place m.id;
  shared = m.shared;
  memory64 = m.memory64;
  initial = m.initial;
  maximum = m.maximum;
  page_size_log2 = m.page_size_log2;
  imported_by = option_map place m.«import»;
  segments = has_id m.data_segments;
  name = text_of m.name;
}

abbrev pub ModuleMemories : Type 0
ModuleMemories = Items MemoryKey Memory

-- the memory or nothing at each place from 0 on
abbrev pub memories : ModuleMemories → List (Option MemoryValue)
memories all = held memory_value all

-- the memories that are still to come
abbrev pub memories_left : ItemIter MemoryKey Memory → List MemoryValue
memories_left left = held_left memory_value left

-- the memories that are still to come, with their places
abbrev pub memory_entries_left : ItemEntries MemoryKey Memory → List (ℕ × MemoryValue)
memory_entries_left left = held_entries_left memory_value left
