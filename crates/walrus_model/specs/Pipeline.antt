-- What gc leaves of a module.
use Rattle.std.specs.Prelude.{ℕ, Option, Some, IsSome, ◌≡◌, ◌↔◌}
use Rattle.walrus_base.specs.Operators.{Types, Functions, Tables, Memories, Tags, Globals, Elements, DataSegments, Item}
use Rattle.walrus_model.specs.Abstract.{Abstract, Subject, TheModule, AnItem, ALocal}
use Rattle.walrus_model.specs.Live.{IsLive}
use Rattle.walrus_model.specs.Reached.{Reached}
use Rattle.walrus_model.specs.Kept.{Kept, IsImportOf}
use Rattle.walrus_model.specs.Carried.{In}

-- what is reached is there
abbrev pub ReachedIsLive : Abstract → Type 0
ReachedIsLive v = (x : Item) → Reached v x → IsLive v x

-- the chosen ones as they were, and no others
pub record KeepsOnly {X : Type 0} (K : ℕ → Type 0) (xs ys : ℕ → Option X) : Type 0 where
  pub kept : (i : ℕ) → K i → ys i ≡ xs i
  pub left : (i : ℕ) (x : X) → ys i ≡ Some x → K i × (xs i ≡ Some x)

-- what can have a name in the chosen part: the module, the chosen items, and the locals of chosen functions
abbrev pub IsSubjectOf : (Item → Type 0) → Subject → Type 0
IsSubjectOf K TheModule = Unit {0}
IsSubjectOf K (AnItem x) = K x
IsSubjectOf K (ALocal f x) = K (Functions, f)

-- w is what gc leaves of v: what is kept, the imports of that, and all else of the module as it was
pub record Collected (v w : Abstract) : Type 0 where
  pub types : KeepsOnly (In (Kept v) Types) v.types w.types
  pub imports : KeepsOnly (IsImportOf (Kept v) v) v.imports w.imports
  pub functions : KeepsOnly (In (Kept v) Functions) v.functions w.functions
  pub tables : KeepsOnly (In (Kept v) Tables) v.tables w.tables
  pub memories : KeepsOnly (In (Kept v) Memories) v.memories w.memories
  pub tags : KeepsOnly (In (Kept v) Tags) v.tags w.tags
  pub globals : KeepsOnly (In (Kept v) Globals) v.globals w.globals
  pub elements : KeepsOnly (In (Kept v) Elements) v.elements w.elements
  pub data_segments : KeepsOnly (In (Kept v) DataSegments) v.data_segments w.data_segments
  pub exports : w.exports ≡ v.exports
  pub start : w.start ≡ v.start
  pub customs : w.customs ≡ v.customs
  pub producers : w.producers ≡ v.producers
  pub named : (y : Subject) → IsSubjectOf (Kept v) y → w.named y ≡ v.named y
  pub table_segments : (table : ℕ) → Kept v (Tables, table) → (segment : ℕ) → w.table_segments table segment ≡ v.table_segments table segment
  pub memory_segments : (memory : ℕ) → Kept v (Memories, memory) → (segment : ℕ) → w.memory_segments memory segment ≡ v.memory_segments memory segment
  pub handler_types : (f : ℕ) → Kept v (Functions, f) → w.handler_types f ≡ v.handler_types f
  pub section_roots : w.section_roots ≡ v.section_roots

-- what gc leaves is all kept, so that a second run deletes nothing
pub record StaysCollected (v w : Abstract) : Type 0 where
  pub items : (x : Item) → IsLive w x → Kept w x
  pub imports : (i : ℕ) → IsSome (w.imports i) → IsImportOf (Kept w) w i
  pub reached : (x : Item) → Reached w x ↔ Reached v x

abbrev pub CollectedOnce : Type 0
CollectedOnce = (v w : Abstract) → Collected v w → StaysCollected v w
