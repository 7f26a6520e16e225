-- The rules on types and indices (Validation > Types, Validation > Modules): each names what is declared where it stands.
use Rattle.std.specs.Prelude.{ℕ, ◌+◌, ◌<◌, ◌≤◌, ⊤, List, length, get_or, sum_by, take, All, Option, Some, None, unwrap_or}
use Rattle.wasm_forms.specs.declared.types.RawHeap.{RawHeap}
use Rattle.wasm_forms.specs.declared.types.RawHeap.TheVariants as heaps
use Rattle.wasm_forms.specs.declared.types.RawVal.{RawVal}
use Rattle.wasm_forms.specs.declared.types.RawVal.TheVariants as vals
use Rattle.wasm_entries.specs.declared.record.RawStorage.{RawStorage}
use Rattle.wasm_entries.specs.declared.record.RawStorage.TheVariants as storages
use Rattle.wasm_entries.specs.declared.record.RawFieldType.{RawFieldType}
use Rattle.wasm_entries.specs.declared.record.RawDesc.{RawDesc}
use Rattle.wasm_entries.specs.declared.record.RawDesc.TheVariants as descs
use Rattle.wasm_entries.specs.declared.record.RawConst.{RawConst}
use Rattle.wasm_entries.specs.declared.record.RawConst.TheVariants as ops
use Rattle.wasm_entries.specs.declared.record.RawExportKind.{RawExportKind}
use Rattle.wasm_entries.specs.declared.record.RawExportKind.TheVariants as kinds
use Rattle.wasm_entries.specs.Record.{Comp, Function, Struct, Array, Sub, Group, Expression, Import, Table, Global, Export, ElementMode, ActiveElements, PassiveElements, DeclaredElements, Items, Functions, Expressions, Element, DataMode, ActiveData, PassiveData, Segment}
use Rattle.wasm_wire.specs.declared.rules.counts.Counts.{Counts}
use Rattle.wasm_frames.specs.Record.{Module}

-- ---- which types are named, where so many may be

abbrev pub HeapHolds : (types : ℕ) → RawHeap → Type 0
HeapHolds types (heaps.Index t) = t < types
HeapHolds types (heaps.Abstract b) = ⊤

abbrev pub ValueHolds : (types : ℕ) → RawVal → Type 0
ValueHolds types (vals.Ref r) = HeapHolds types r.heap
ValueHolds types vals.I32 = ⊤
ValueHolds types vals.I64 = ⊤
ValueHolds types vals.F32 = ⊤
ValueHolds types vals.F64 = ⊤
ValueHolds types vals.V128 = ⊤

abbrev pub StorageHolds : (types : ℕ) → RawStorage → Type 0
StorageHolds types (storages.Val v) = ValueHolds types v
StorageHolds types storages.I8 = ⊤
StorageHolds types storages.I16 = ⊤

abbrev pub FieldHolds : (types : ℕ) → RawFieldType → Type 0
FieldHolds types f = StorageHolds types f.storage

abbrev pub CompHolds : (types : ℕ) → Comp → Type 0
CompHolds types (Function t) = All (ValueHolds types) t.params × All (ValueHolds types) t.results
CompHolds types (Struct fields) = All (FieldHolds types) fields
CompHolds types (Array field) = FieldHolds types field

-- ---- types name earlier ones (Validation > Types > Recursive Types)

-- R of each of these and its number, from `first` on
abbrev pub AllFrom : {A : Type 0} → (ℕ → A → Type 0) → (first : ℕ) → List A → Type 0
AllFrom {A} R first xs = (i : ℕ) (d : A) → i < length xs → R (first + i) (get_or xs i d)

-- The type of this index, in a group that ends before index `end`, has at most one supertype, of a smaller index; every
-- other type that it names is of an earlier group or of its own.
pub record SubRefers (end index : ℕ) (s : Sub) : Type 0 where
  pub one_supertype : length s.supers ≤ 1
  pub supertypes : All (λ u. u < index) s.supers
  pub others : CompHolds end s.comp

-- the types of a group, the first of which has this index
abbrev pub GroupRefers : (first : ℕ) → Group → Type 0
GroupRefers first g = AllFrom (SubRefers (first + length g)) first g

-- each group behind the types of those before it
abbrev pub TypesRefer : List Group → Type 0
TypesRefer gs = (i : ℕ) (d : Group) → i < length gs → GroupRefers (sum_by (λ g. length g) (take i gs)) (get_or gs i d)

-- ---- indices name what is declared

-- with so many globals alone in scope
abbrev pub with_globals : Counts → ℕ → Counts
with_globals c globals = record c { globals = globals }

abbrev pub ConstHolds : Counts → RawConst → Type 0
ConstHolds c (ops.GlobalGet g) = g < c.globals
ConstHolds c (ops.RefFunc f) = f < c.functions
ConstHolds c (ops.RefNull h) = HeapHolds c.types h
ConstHolds c (ops.StructNew t) = t < c.types
ConstHolds c (ops.StructNewDefault t) = t < c.types
ConstHolds c (ops.ArrayNew t) = t < c.types
ConstHolds c (ops.ArrayNewDefault t) = t < c.types
ConstHolds c (ops.ArrayNewFixed t n) = t < c.types
ConstHolds c (ops.I32Const z) = ⊤
ConstHolds c (ops.I64Const z) = ⊤
ConstHolds c (ops.F32Const bits) = ⊤
ConstHolds c (ops.F64Const bits) = ⊤
ConstHolds c (ops.V128Const bytes) = ⊤
ConstHolds c ops.I32Add = ⊤
ConstHolds c ops.I32Sub = ⊤
ConstHolds c ops.I32Mul = ⊤
ConstHolds c ops.I64Add = ⊤
ConstHolds c ops.I64Sub = ⊤
ConstHolds c ops.I64Mul = ⊤
ConstHolds c ops.AnyConvertExtern = ⊤
ConstHolds c ops.ExternConvertAny = ⊤
ConstHolds c ops.RefI31 = ⊤

abbrev pub ExpressionHolds : Counts → Expression → Type 0
ExpressionHolds c e = All (ConstHolds c) e

abbrev pub DescHolds : (types : ℕ) → RawDesc → Type 0
DescHolds types (descs.Function ty) = ty < types
DescHolds types (descs.Table t) = HeapHolds types t.element.heap
DescHolds types (descs.Memory l) = ⊤
DescHolds types (descs.Global g) = ValueHolds types g.value
DescHolds types (descs.Tag ty) = ty < types

abbrev pub ImportHolds : (types : ℕ) → Import → Type 0
ImportHolds types i = DescHolds types i.desc

abbrev pub InitialHolds : Counts → Option Expression → Type 0
InitialHolds c None = ⊤
InitialHolds c (Some e) = ExpressionHolds c e

-- a table's initialiser names imported globals alone
abbrev pub TableHolds : Counts → Table → Type 0
TableHolds c t = HeapHolds c.types t.ty.element.heap × InitialHolds (with_globals c c.imported_globals) t.initial

-- the initialiser of the global of this index names imported and earlier ones
abbrev pub GlobalHolds : Counts → (index : ℕ) → Global → Type 0
GlobalHolds c index g = ValueHolds c.types g.ty.value × ExpressionHolds (with_globals c index) g.initial

abbrev pub count_of : Counts → RawExportKind → ℕ
count_of c kinds.Function = c.functions
count_of c kinds.Table = c.tables
count_of c kinds.Memory = c.memories
count_of c kinds.Global = c.globals
count_of c kinds.Tag = c.tags

abbrev pub ExportHolds : Counts → Export → Type 0
ExportHolds c e = e.index < count_of c e.kind

abbrev pub ElementModeHolds : Counts → ElementMode → Type 0
ElementModeHolds c (ActiveElements table offset) = (unwrap_or table 0 < c.tables) × ExpressionHolds c offset
ElementModeHolds c PassiveElements = ⊤
ElementModeHolds c DeclaredElements = ⊤

abbrev pub ItemsHold : Counts → Items → Type 0
ItemsHold c (Functions fs) = All (λ f. f < c.functions) fs
ItemsHold c (Expressions ty es) = HeapHolds c.types ty.heap × All (ExpressionHolds c) es

abbrev pub ElementHolds : Counts → Element → Type 0
ElementHolds c e = ElementModeHolds c e.mode × ItemsHold c e.items

abbrev pub DataModeHolds : Counts → DataMode → Type 0
DataModeHolds c (ActiveData memory offset) = (memory < c.memories) × ExpressionHolds c offset
DataModeHolds c PassiveData = ⊤

abbrev pub SegmentHolds : Counts → Segment → Type 0
SegmentHolds c d = DataModeHolds c d.mode

abbrev pub StartExists : Counts → Option ℕ → Type 0
StartExists c None = ⊤
StartExists c (Some f) = f < c.functions

pub record IndicesHold (c : Counts) (m : Module) : Type 0 where
  pub imports : All (ImportHolds c.types) m.imports
  pub functions : All (λ t. t < c.types) m.functions
  pub tables : All (TableHolds c) m.tables
  pub tags : All (λ t. t < c.types) m.tags
  pub globals : AllFrom (GlobalHolds c) c.imported_globals m.globals
  pub exports : All (ExportHolds c) m.exports
  pub start : StartExists c m.start
  pub elements : All (ElementHolds c) m.elements
  pub data_segments : All (SegmentHolds c) m.data_segments
