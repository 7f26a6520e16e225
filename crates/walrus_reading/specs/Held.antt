-- What a slot holds of an item that was read: the item as the sections say it, under the slot's own id, and nothing that they don't say: no
-- name, and no segments that are kept as long as the item is but those that are active in a table or a memory.
use Rattle.std.specs.Prelude.{ℕ, Bool, true, false, All, List, Option, Some, None, IfSome, slice_get, ◌≡◌, ⊤}
use Rattle.walrus_base.specs.declared.locals.ModuleLocals.{ModuleLocals}
use Rattle.walrus_items.specs.Functions.{FunctionValue}
use Rattle.walrus_items.specs.Imports.{ImportValue}
use Rattle.walrus_items.specs.Data.{DataValue}
use Rattle.walrus_items.specs.Elements.{ElementValue}
use Rattle.walrus_items.specs.Globals.{GlobalValue}
use Rattle.walrus_items.specs.Memories.{MemoryValue}
use Rattle.walrus_items.specs.Tables.{TableValue}
use Rattle.walrus_items.specs.Tags.{TagValue}
use Rattle.walrus_model.specs.Abstract.{DataSegment, Element, Function, Global, Import, Memory, Table, Tag}
use Rattle.walrus_model.specs.Sections.{is_on_memory, is_on_table, passes}
use Rattle.walrus_constants.specs.Short.{is_short}
use Rattle.walrus_items.specs.declared.segments.DataKind.TheVariants as data_kinds
use Rattle.walrus_items.specs.declared.segments.DataKind.{DataKind}
use Rattle.walrus_items.specs.declared.segments.ElementItems.TheVariants as element_contents
use Rattle.walrus_items.specs.declared.segments.ElementItems.{ElementItems}
use Rattle.walrus_items.specs.declared.segments.ElementKind.TheVariants as element_kinds
use Rattle.walrus_items.specs.declared.segments.ElementKind.{ElementKind}
use Rattle.walrus_contents.specs.View as view

-- which of these element segments a table keeps: those that are active in it
abbrev pub table_keeps : List Element → (table segment : ℕ) → Bool
table_keeps all table segment = passes (λ e. is_on_table table e.kind) (slice_get all segment)

-- which of these data segments a memory keeps
abbrev pub memory_keeps : List DataSegment → (memory segment : ℕ) → Bool
memory_keeps all memory segment = passes (λ d. is_on_memory memory d.kind) (slice_get all segment)

-- none is kept
abbrev pub none_kept : (item segment : ℕ) → Bool
none_kept item segment = false

-- a slot holds this memory, which keeps these data segments
pub record HoldsMemory (kept : (memory segment : ℕ) → Bool) (id : ℕ) (memory : Memory) (slot : Option MemoryValue) : Type 0 where
  pub value : MemoryValue
  pub is : slot ≡ Some value
  pub own_id : value.id ≡ id
  pub read : view.memory_of value ≡ memory
  pub segments : (segment : ℕ) → value.segments segment ≡ kept id segment
  pub unnamed : value.name ≡ None

-- a slot holds this table, with its initialiser in its shortest form, which keeps these element segments
pub record HoldsTable (kept : (table segment : ℕ) → Bool) (id : ℕ) (table : Table) (slot : Option TableValue) : Type 0 where
  pub value : TableValue
  pub is : slot ≡ Some value
  pub own_id : value.id ≡ id
  pub read : view.table_of value ≡ table
  pub short : IfSome value.initialiser (λ e. is_short e ≡ true)
  pub segments : (segment : ℕ) → value.segments segment ≡ kept id segment
  pub unnamed : value.name ≡ None

-- a slot holds this tag
pub record HoldsTag (id : ℕ) (tag : Tag) (slot : Option TagValue) : Type 0 where
  pub value : TagValue
  pub is : slot ≡ Some value
  pub own_id : value.id ≡ id
  pub read : view.tag_of value ≡ tag
  pub unnamed : value.name ≡ None

-- a slot holds this global, with its initialiser in its shortest form
pub record HoldsGlobal (id : ℕ) (global : Global) (slot : Option GlobalValue) : Type 0 where
  pub value : GlobalValue
  pub is : slot ≡ Some value
  pub own_id : value.id ≡ id
  pub read : view.global_of value ≡ global
  pub short : IfSome value.initialiser (λ e. is_short e ≡ true)
  pub unnamed : value.name ≡ None

-- the offset of active elements is in its shortest form
abbrev pub HaveShortOffset : ElementKind → Type 0
HaveShortOffset (element_kinds.Active table offset) = is_short offset ≡ true
HaveShortOffset element_kinds.Passive = ⊤
HaveShortOffset element_kinds.Declared = ⊤

-- so is each expression of a segment
abbrev pub AreShort : ElementItems → Type 0
AreShort (element_contents.Functions fs) = ⊤
AreShort (element_contents.Expressions ty es) = All (λ e. is_short e ≡ true) es.items

-- a slot holds this element segment, with its offset and its expressions in their shortest form
pub record HoldsElement (id : ℕ) (segment : Element) (slot : Option ElementValue) : Type 0 where
  pub value : ElementValue
  pub is : slot ≡ Some value
  pub own_id : value.id ≡ id
  pub read : view.element_of value ≡ segment
  pub short : HaveShortOffset value.kind
  pub short_items : AreShort value.items
  pub unnamed : value.name ≡ None

-- the offset of active data is in its shortest form
abbrev pub HasShortOffset : DataKind → Type 0
HasShortOffset (data_kinds.Active memory offset) = is_short offset ≡ true
HasShortOffset data_kinds.Passive = ⊤

-- a slot holds this data segment, with its offset in its shortest form
pub record HoldsData (id : ℕ) (segment : DataSegment) (slot : Option DataValue) : Type 0 where
  pub value : DataValue
  pub is : slot ≡ Some value
  pub own_id : value.id ≡ id
  pub read : view.data_of value ≡ segment
  pub short : HasShortOffset value.kind
  pub unnamed : value.name ≡ None

-- a slot holds this import, which names the item that it brings
pub record HoldsImport (id : ℕ) (item : Import) (slot : Option ImportValue) : Type 0 where
  pub value : ImportValue
  pub is : slot ≡ Some value
  pub own_id : value.id ≡ id
  pub read : view.import_of value ≡ item

-- a slot holds this function, which an import brings, whatever locals there are
pub record HoldsImportedFunction (id : ℕ) (function : Function) (slot : Option FunctionValue) : Type 0 where
  pub value : FunctionValue
  pub is : slot ≡ Some value
  pub own_id : value.id ≡ id
  pub read : (all : ModuleLocals) → view.function all value ≡ function
  pub unnamed : value.name ≡ None
