-- What is answered where an operator is put through the tables of ids.
use Rattle.std.specs.Prelude.{◌≡◌, ℕ, Bool, true, false, ◌||◌, List, [], ◌∷◌, Option, Some, None, slice_get, map, Result, Ok, Err}
use Rattle.walrus_base.specs.Types.{HeapType, OfHeap, Concrete, Exact, ValType, I32, I64, F32, F64, V128, Ref}
use Rattle.walrus_base.specs.Id.{place}
use Rattle.walrus_base.specs.declared.id.Id.{Id}
use Rattle.walrus_base.specs.declared.keys.LocalKey.{LocalKey}
use Rattle.walrus_base.specs.Operators.{BlockType, NoResult, OneResult, OfType, Arg, Index, Label, Local, Number, Count, Byte, S32, S64, Bits32, Bits64, Value, Heap, Block, Access, Op}
use Rattle.walrus_code.specs.declared.error.IrError.{IrError}
use Rattle.walrus_code.specs.declared.error.IrError.TheVariants.{Malformed, Memory, NoIndex, NotWritable, TooLarge}

-- ---- from indices to ids

-- the places of a function's locals by their indices
abbrev pub locals_at : List (Id LocalKey) → ℕ → Option ℕ
locals_at ids index = slice_get (map place ids) index

-- what stands there with its numbers looked up; malformed: one isn't declared
abbrev pub Finds : {X Y : Type 0} → (X → Y) → Result X IrError → Option Y → Type 0
Finds view (Ok x) found = found ≡ Some (view x)
Finds view (Err Malformed) found = found ≡ None
Finds view (Err (Memory e)) found = Unit {0}
Finds view (Err NoIndex) found = ⊥
Finds view (Err NotWritable) found = ⊥
Finds view (Err TooLarge) found = ⊥

-- not refused for a lack of memory
abbrev pub NeedsNoMemory : {X : Type 0} → Result X IrError → Type 0
NeedsNoMemory (Ok x) = Unit {0}
NeedsNoMemory (Err (Memory e)) = ⊥
NeedsNoMemory (Err Malformed) = Unit {0}
NeedsNoMemory (Err NoIndex) = Unit {0}
NeedsNoMemory (Err NotWritable) = Unit {0}
NeedsNoMemory (Err TooLarge) = Unit {0}

-- ---- exact heap types, which no bytes spell

abbrev pub heap_is_exact : HeapType ℕ → Bool
heap_is_exact (OfHeap h) = false
heap_is_exact (Concrete t) = false
heap_is_exact (Exact t) = true

abbrev pub val_is_exact : ValType ℕ → Bool
val_is_exact (Ref r) = heap_is_exact r.heap
val_is_exact I32 = false
val_is_exact I64 = false
val_is_exact F32 = false
val_is_exact F64 = false
val_is_exact V128 = false

abbrev pub block_is_exact : BlockType → Bool
block_is_exact NoResult = false
block_is_exact (OneResult v) = val_is_exact v
block_is_exact (OfType t) = false

abbrev pub arg_is_exact : Arg → Bool
arg_is_exact (Value v) = val_is_exact v
arg_is_exact (Heap h) = heap_is_exact h
arg_is_exact (Block b) = block_is_exact b
arg_is_exact (Index x) = false
arg_is_exact (Local n) = false
arg_is_exact (Label n) = false
arg_is_exact (Number n) = false
arg_is_exact (Count n) = false
arg_is_exact (Byte n) = false
arg_is_exact (S32 z) = false
arg_is_exact (S64 z) = false
arg_is_exact (Bits32 n) = false
arg_is_exact (Bits64 n) = false
arg_is_exact (Access flags memory offset) = false

abbrev pub args_are_exact : List Arg → Bool
args_are_exact [] = false
args_are_exact (arg ∷ rest) = arg_is_exact arg || args_are_exact rest

-- ---- from ids to indices

-- What stands there with its numbers looked up, and no exact heap type in it; no index: an item in it has none; not writable: an
-- exact heap type stands in it.
abbrev pub IndexesIn : {X Y : Type 0} → (X → Y) → Result X IrError → (is_exact : Bool) → Option Y → Type 0
IndexesIn view (Ok x) is_exact found = (found ≡ Some (view x)) × (is_exact ≡ false)
IndexesIn view (Err NoIndex) is_exact found = found ≡ None
IndexesIn view (Err NotWritable) is_exact found = is_exact ≡ true
IndexesIn view (Err (Memory e)) is_exact found = Unit {0}
IndexesIn view (Err Malformed) is_exact found = ⊥
IndexesIn view (Err TooLarge) is_exact found = ⊥

-- the same of an operator
abbrev pub Indexes : {X : Type 0} → (X → Op) → Result X IrError → Op → Option Op → Type 0
Indexes view result o found = IndexesIn view result (args_are_exact o.args) found
