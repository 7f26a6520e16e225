-- What a search for used items finds, in the words of the abstract module.
use Rattle.std.specs.Prelude.{ℕ, ◌≡◌, ◌↔◌, ◌⊎◌, true}
use Rattle.walrus_base.specs.IdSet.{HasId}
use Rattle.walrus_base.specs.Operators.{Types, Functions, Tables, Memories, Tags, Globals, Elements, DataSegments, Item}
use Rattle.walrus_model.specs.Abstract.{Abstract}
use Rattle.walrus_model.specs.Kept.{IsFirstMemory, Kept, ReachedCount}
use Rattle.walrus_model.specs.Reached.{Reached}
use Rattle.walrus_contents.specs.There.{IsSound}
use Rattle.walrus.specs.MarkedItems.{has_mark}
use Rattle.walrus.specs.declared.passes.marks.MarkedItems.{MarkedItems}
use Rattle.walrus.specs.declared.passes.used.Used.{Used}

-- the item is in the set of its kind
abbrev pub IsMarked : Used → Item → Type 0
IsMarked used (Types, i) = HasId used.types i
IsMarked used (Functions, i) = HasId used.funcs i
IsMarked used (Tables, i) = HasId used.tables i
IsMarked used (Memories, i) = HasId used.memories i
IsMarked used (Tags, i) = HasId used.tags i
IsMarked used (Globals, i) = HasId used.globals i
IsMarked used (Elements, i) = HasId used.elements i
IsMarked used (DataSegments, i) = HasId used.data_ i

-- the eight sets are exactly what is kept
abbrev pub MarksKept : Abstract → Used → Type 0
MarksKept v used = (x : Item) → IsMarked used x ↔ Kept v x

-- those marked are exactly what is kept
abbrev pub MarksAreKept : Abstract → MarkedItems → Type 0
MarksAreKept v marks = (x : Item) → (has_mark marks x ≡ true) ↔ Kept v x

-- the eight sets hold those marked
abbrev pub HoldsMarked : MarkedItems → Used → Type 0
HoldsMarked marks used = (x : Item) → IsMarked used x ↔ (has_mark marks x ≡ true)

-- ---- the spare memory

-- the item is the first live memory
pub record IsFirst (v : Abstract) (x : Item) : Type 0 where
  pub memory : ℕ
  pub is : x ≡ (Memories, memory)
  pub first : IsFirstMemory v memory

-- beside those that were marked, that memory is, if there is one
abbrev pub MarksFirst : Abstract → MarkedItems → MarkedItems → Type 0
MarksFirst v old new = (x : Item) → (has_mark new x ≡ true) ↔ ((has_mark old x ≡ true) ⊎ IsFirst v x)

-- a data segment is marked, and no memory
pub record IsSpared (marks : MarkedItems) : Type 0 where
  pub segment : ℕ
  pub data_is : has_mark marks (DataSegments, segment) ≡ true
  pub no_memory_is : (j : ℕ) → has_mark marks (Memories, j) ≡ true → ⊥

-- beside those that were marked, that memory is where a data segment was marked and no memory
abbrev pub MarksSpare : Abstract → MarkedItems → MarkedItems → Type 0
MarksSpare v old new = (x : Item) → (has_mark new x ≡ true) ↔ ((has_mark old x ≡ true) ⊎ (IsSpared old × IsFirst v x))

-- all that is reached is sound
abbrev pub ReachesSound : Abstract → Type 0
ReachesSound v = (x : Item) → Reached v x → IsSound v x

-- something reached isn't sound
abbrev pub ReachesUnsound : Abstract → Type 0
ReachesUnsound v = (x : Item) × Reached v x × (IsSound v x → ⊥)

-- what a search finds: the marks of what is kept, and of how many items reached; what is reached is sound
pub record Finds (v : Abstract) (marks : MarkedItems) (n : ℕ) : Type 0 where
  pub kept : MarksAreKept v marks
  pub count : ReachedCount v n
  pub sound : ReachesSound v
