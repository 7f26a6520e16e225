-- The entries of a module's sections without where they lie in memory ("Structure > Modules").
use Rattle.std.specs.Prelude.{ℕ, Bool, List, [], ◌∷◌, map, Option, option_map}
use Rattle.std.specs.Global.{Vec}
use Rattle.wasm_forms.specs.declared.types.RawVal.{RawVal}
use Rattle.wasm_forms.specs.declared.types.RawRef.{RawRef}
use Rattle.wasm_entries.specs.declared.record.RawFieldType.{RawFieldType}
use Rattle.wasm_entries.specs.declared.record.RawFuncType.{RawFuncType}
use Rattle.wasm_entries.specs.declared.record.RawComp.{RawComp}
use Rattle.wasm_entries.specs.declared.record.RawComp.TheVariants as comps
use Rattle.wasm_entries.specs.declared.record.RawSub.{RawSub}
use Rattle.wasm_entries.specs.declared.record.RawTableType.{RawTableType}
use Rattle.wasm_entries.specs.declared.record.RawGlobalType.{RawGlobalType}
use Rattle.wasm_entries.specs.declared.record.RawDesc.{RawDesc}
use Rattle.wasm_entries.specs.declared.record.RawDesc.TheVariants as descs
use Rattle.wasm_entries.specs.declared.record.RawImport.{RawImport}
use Rattle.wasm_entries.specs.declared.record.RawConst.{RawConst}
use Rattle.wasm_entries.specs.declared.record.RawExpression.{RawExpression}
use Rattle.wasm_entries.specs.declared.record.RawExpression.TheVariants as expressions
use Rattle.wasm_entries.specs.declared.record.HeldDesc.{HeldDesc}
use Rattle.wasm_entries.specs.declared.record.HeldDesc.TheVariants as held
use Rattle.wasm_entries.specs.declared.record.RawTable.{RawTable}
use Rattle.wasm_entries.specs.declared.record.RawGlobal.{RawGlobal}
use Rattle.wasm_entries.specs.declared.record.RawExportKind.{RawExportKind}
use Rattle.wasm_entries.specs.declared.record.RawExport.{RawExport}
use Rattle.wasm_entries.specs.declared.record.RawElementMode.{RawElementMode}
use Rattle.wasm_entries.specs.declared.record.RawElementMode.TheVariants as element_modes
use Rattle.wasm_entries.specs.declared.record.RawItems.{RawItems}
use Rattle.wasm_entries.specs.declared.record.RawItems.TheVariants as items
use Rattle.wasm_entries.specs.declared.record.RawElement.{RawElement}
use Rattle.wasm_entries.specs.declared.record.RawDataMode.{RawDataMode}
use Rattle.wasm_entries.specs.declared.record.RawDataMode.TheVariants as data_modes
use Rattle.wasm_entries.specs.declared.record.RawData.{RawData}

-- ---- types ("Structure > Types")

-- a function type: the types of its parameters and of its results ("Function Types")
pub record FuncType : Type 0 where
  pub params : List RawVal
  pub results : List RawVal

-- a composite type: a function type, a struct type by its fields, or an array type by the field type of its elements ("Composite Types")
pub data Comp : Type 0 where
  Function : FuncType → Comp
  Struct : List RawFieldType → Comp
  Array : RawFieldType → Comp

-- a sub type: whether it is final, the indices of its supertypes, any number here, though validation allows one, and its composite type ("Recursive Types")
pub record Sub : Type 0 where
  pub is_final : Bool
  pub supers : List ℕ
  pub comp : Comp

-- a recursive type: sub types, any number of them, that may name one another ("Recursive Types")
abbrev pub Group : Type 0
Group = List Sub

-- ---- entries

-- a constant expression by its instructions, without the end behind them ("Instructions > Expressions")
abbrev pub Expression : Type 0
Expression = List RawConst

-- an import: the names of the module and of the item in it, as their bytes, and what it brings ("Imports")
pub record Import : Type 0 where
  pub from : List ℕ
  pub name : List ℕ
  pub desc : RawDesc

-- a table of the module: its type, and its initialiser where it has one ("Tables")
pub record Table : Type 0 where
  pub ty : RawTableType
  pub initial : Option Expression

-- a global of the module: its type and its initialiser ("Globals")
pub record Global : Type 0 where
  pub ty : RawGlobalType
  pub initial : Expression

-- an export: its name, as its bytes, and the kind and the index of what it names ("Exports")
pub record Export : Type 0 where
  pub name : List ℕ
  pub kind : RawExportKind
  pub index : ℕ

-- the mode of an element segment: active, with a table and an offset, where no table stands for table 0; passive; or declarative ("Element Segments")
pub data ElementMode : Type 0 where
  ActiveElements : Option ℕ → Expression → ElementMode
  PassiveElements DeclaredElements : ElementMode

-- what an element segment lists: functions by their indices, or constant expressions with their reference type ("Element Segments")
pub data Items : Type 0 where
  Functions : List ℕ → Items
  Expressions : RawRef → List Expression → Items

-- an element segment: its mode, and what it lists ("Element Segments")
pub record Element : Type 0 where
  pub mode : ElementMode
  pub items : Items

-- the mode of a data segment: active, with a memory and an offset, or passive ("Data Segments")
pub data DataMode : Type 0 where
  ActiveData : ℕ → Expression → DataMode
  PassiveData : DataMode

-- a data segment: its mode and its bytes ("Data Segments")
pub record Segment : Type 0 where
  pub mode : DataMode
  pub bytes : List ℕ

-- ---- what the records in memory hold

-- the function type that a record in memory holds, its vectors as lists
abbrev pub func_type : RawFuncType → FuncType
func_type t = record { params = t.params.items; results = t.results.items }

-- the composite type that a record in memory holds, its vectors as lists
abbrev pub comp : RawComp → Comp
comp (comps.Func t) = Function (func_type t)
comp (comps.Struct fields) = Struct fields.items
comp (comps.Array field) = Array field

abbrev pub sub : RawSub → Sub
sub s = record { is_final = s.is_final; supers = s.supers.items; comp = comp s.comp }

abbrev pub group : Vec RawSub → Group
group g = map sub g.items

abbrev pub expression : RawExpression → Expression
expression (expressions.Single operator) = operator ∷ []
expression (expressions.Listed operators) = operators.items

abbrev pub held_desc : HeldDesc → RawDesc
held_desc (held.Function ty) = descs.Function ty
held_desc (held.Table ty) = descs.Table ty.value
held_desc (held.Memory limits) = descs.Memory limits.value
held_desc (held.Global ty) = descs.Global ty.value
held_desc (held.Tag ty) = descs.Tag ty

abbrev pub import_entry : RawImport → Import
import_entry i = record { from = i.from.now; name = i.name.now; desc = held_desc i.held }

abbrev pub table_entry : RawTable → Table
table_entry t = record { ty = t.ty; initial = option_map (λ initial. expression initial.value) t.initial }

abbrev pub global_entry : RawGlobal → Global
global_entry g = record { ty = g.ty; initial = expression g.initial }

abbrev pub export_entry : RawExport → Export
export_entry e = record { name = e.name.now; kind = e.kind; index = e.index }

abbrev pub element_mode : RawElementMode → ElementMode
element_mode (element_modes.Active table offset) = ActiveElements table (expression offset)
element_mode element_modes.Passive = PassiveElements
element_mode element_modes.Declared = DeclaredElements

abbrev pub items_of : RawItems → Items
items_of (items.Functions fs) = Functions fs.items
items_of (items.Expressions ty es) = Expressions ty (map expression es.items)

abbrev pub element_entry : RawElement → Element
element_entry e = record { mode = element_mode e.mode; items = items_of e.items }

abbrev pub data_mode : RawDataMode → DataMode
data_mode (data_modes.Active memory offset) = ActiveData memory (expression offset.value)
data_mode data_modes.Passive = PassiveData

abbrev pub data_entry : RawData → Segment
data_entry d = record { mode = data_mode d.mode; bytes = d.bytes.now }
