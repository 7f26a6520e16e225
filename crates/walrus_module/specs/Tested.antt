-- What a check tests item by item ("Validation > Modules"). Public clauses speak of the rules themselves.
use Rattle.std.specs.Prelude.{ℕ, ◌-◌, ◌^◌, ◌≤◌, ⊤, Bool, true, false, not, ◌&&◌, ◌||◌, nat_eq, nat_le, List, [], ◌∷◌, length, All, AllPairs, Contains, ◌≢◌, Option, Some, None, is_some, unwrap_or, if◌then◌else◌}
use Rattle.std.specs.Borrow.{Bor}
use Rattle.std.specs.List.{list_all}
use Rattle.walrus_base.specs.Arena.{entries, item_at, items}
use Rattle.walrus_base.specs.Id.{place}
use Rattle.walrus_base.specs.Types.{CompType, Func, Struct, Array, ValType, I32, I64, StorageType, Unpacked, I8, I16, FieldType}
use Rattle.walrus_base.specs.ModuleTypes.{type_slots}
use Rattle.walrus_base.specs.Operators.{locals_of}
use Rattle.walrus_base.specs.TypeDef.{TypeDef}
use Rattle.walrus_base.specs.Value.{heap_type, ref_type}
use Rattle.walrus_base.specs.declared.const_expr.Value.{Value as Constant}
use Rattle.walrus_base.specs.declared.const_expr.Value.TheVariants as constants
use Rattle.walrus_base.specs.declared.const_expr.ConstOp.{ConstOp}
use Rattle.walrus_base.specs.declared.const_expr.ConstOp.TheVariants as ops
use Rattle.walrus_base.specs.declared.const_expr.ConstExpr.{ConstExpr}
use Rattle.walrus_base.specs.declared.const_expr.ConstExpr.TheVariants as expressions
use Rattle.walrus_base.specs.declared.module_types.ModuleTypes.{ModuleTypes}
use Rattle.walrus_code.specs.Results.{heap_is_exact, val_is_exact}
use Rattle.walrus_bodies.specs.Blocks.{blocks_hold}
use Rattle.walrus_bodies.specs.FunctionTypes.{is_function_at}
use Rattle.walrus_items.specs.Data.{DataValue, data_segments}
use Rattle.walrus_items.specs.declared.segments.DataKind.{DataKind}
use Rattle.walrus_items.specs.declared.segments.DataKind.TheVariants as data_kinds
use Rattle.walrus_items.specs.declared.segments.ElementItems.{ElementItems}
use Rattle.walrus_items.specs.declared.segments.ElementItems.TheVariants as element_contents
use Rattle.walrus_items.specs.declared.segments.ElementKind.{ElementKind}
use Rattle.walrus_items.specs.declared.segments.ElementKind.TheVariants as element_kinds
use Rattle.walrus_items.specs.Elements.{ElementValue, elements}
use Rattle.walrus_items.specs.Exports.{ExportValue}
use Rattle.walrus_items.specs.Function.{args_of, body_of}
use Rattle.walrus_items.specs.declared.function_kind.FunctionKind.{FunctionKind}
use Rattle.walrus_items.specs.declared.function_kind.FunctionKind.TheVariants as kinds
use Rattle.walrus_items.specs.FunctionKinds.{kind_type}
use Rattle.walrus_items.specs.Functions.{FunctionValue}
use Rattle.walrus_items.specs.Globals.{GlobalValue, globals}
use Rattle.walrus_items.specs.LocalFunction.{LocalFunction}
use Rattle.walrus_items.specs.Memories.{MemoryValue}
use Rattle.walrus_items.specs.Tables.{TableValue, tables}
use Rattle.walrus_items.specs.Tags.{TagValue}
use Rattle.walrus_contents.specs.declared.parts.Contents.{Contents}
use Rattle.wasm_wire.specs.declared.rules.broken.BrokenRule.{BrokenRule}
use Rattle.walrus_model.specs.Abstract.{Abstract}
use Rattle.walrus_model.specs.Rules.{ExportsHold, FunctionTypesHold, LimitsHold, LocalsHold, OffsetsHold}
use Rattle.walrus_module.specs.Check.{Breaks}

-- ---- types of functions, tags and blocks

abbrev pub function_is_typed : ModuleTypes → FunctionValue → Bool
function_is_typed types f = is_function_at types (place (kind_type f.kind))

abbrev pub tag_is_typed : ModuleTypes → TagValue → Bool
tag_is_typed types t = is_function_at types t.ty

abbrev pub kind_blocks_hold : ModuleTypes → FunctionKind → Bool
kind_blocks_hold types (kinds.Local f) = blocks_hold (is_function_at types) (body_of f)
kind_blocks_hold types (kinds.Import i) = true
kind_blocks_hold types (kinds.Uninitialized ty) = true

abbrev pub function_blocks_hold : ModuleTypes → FunctionValue → Bool
function_blocks_hold types f = kind_blocks_hold types f.kind

-- ---- locals

-- no more than 50,000 locals are used beside the parameters
abbrev pub DeclaresFew : LocalFunction → Type 0
DeclaresFew f = (further : List ℕ) → AllPairs (λ (x : ℕ) (y : ℕ). x ≢ y) further → All (Contains (locals_of (body_of f))) further
    → All (λ (x : ℕ). Contains (args_of f) x → ⊥) further → length further ≤ 50_000

abbrev pub KindDeclaresFew : FunctionKind → Type 0
KindDeclaresFew (kinds.Local f) = DeclaresFew f
KindDeclaresFew (kinds.Import i) = ⊤
KindDeclaresFew (kinds.Uninitialized ty) = ⊤

-- ---- limits

abbrev pub is_at_most : ℕ → Option ℕ → Bool
is_at_most n None = true
is_at_most n (Some most) = nat_le n most

abbrev pub maximum_is_at_most : Option ℕ → ℕ → Bool
maximum_is_at_most None most = true
maximum_is_at_most (Some n) most = nat_le n most

abbrev pub is_exponent : Option ℕ → Bool
is_exponent None = true
is_exponent (Some p) = nat_eq p 0 || nat_eq p 16

-- the most pages of a memory, where the exponent of its page size is one of these
abbrev pub most_pages : Bool → Option ℕ → ℕ
most_pages wide page = 2 ^ ((if wide then 64 else 32) - unwrap_or page 16)

abbrev pub table_is_limited : TableValue → Bool
table_is_limited t = is_at_most t.initial t.maximum

abbrev pub pages_are_few : MemoryValue → Bool
pages_are_few m = nat_le m.initial (most_pages m.memory64 m.page_size_log2) && maximum_is_at_most m.maximum (most_pages m.memory64 m.page_size_log2)

abbrev pub memory_is_limited : MemoryValue → Bool
memory_is_limited m = is_at_most m.initial m.maximum && (not m.shared || is_some m.maximum) && is_exponent m.page_size_log2 && pages_are_few m

-- ---- the start function

abbrev pub is_nothing : {X : Type 0} → List X → Bool
is_nothing [] = true
is_nothing (x ∷ xs) = false

abbrev pub is_empty_comp : CompType ℕ → Bool
is_empty_comp (Func params results) = is_nothing params && is_nothing results
is_empty_comp (Struct fields) = false
is_empty_comp (Array element) = false

abbrev pub is_empty_def : Option TypeDef → Bool
is_empty_def None = false
is_empty_def (Some x) = is_empty_comp x.sub.comp

-- the function, if it is there, takes nothing and gives nothing
abbrev pub function_is_empty : ModuleTypes → Option FunctionValue → Bool
function_is_empty types None = true
function_is_empty types (Some f) = is_empty_def (item_at (type_slots types) (place (kind_type f.kind)))

abbrev pub start_is_empty : ModuleTypes → List (Option FunctionValue) → Option ℕ → Bool
start_is_empty types slots None = true
start_is_empty types slots (Some i) = function_is_empty types (item_at slots i)

-- ---- names of exports

-- no two of these texts are one
abbrev pub AreApart : List (Bor (List ℕ)) → Type 0
AreApart names = AllPairs (λ (x : Bor (List ℕ)) (y : Bor (List ℕ)). x.now ≢ y.now) names

-- no two of these exports have one name
abbrev pub AreNamedApart : List ExportValue → Type 0
AreNamedApart all = AllPairs (λ (d : ExportValue) (e : ExportValue). d.name ≢ e.name) all

-- ---- offsets

abbrev pub is_address : Bool → ValType ℕ → Bool
is_address false I32 = true
is_address true I64 = true
is_address wide v = false

abbrev pub global_gives : Bool → Option GlobalValue → Bool
global_gives wide None = false
global_gives wide (Some g) = is_address wide g.ty

abbrev pub value_gives : Bool → Constant → Bool
value_gives wide (constants.I32 n) = not wide
value_gives wide (constants.I64 n) = wide
value_gives wide (constants.F32 bits) = false
value_gives wide (constants.F64 bits) = false
value_gives wide (constants.V128 bytes) = false

-- an operator that stands alone gives an address of this width, where it gives a value at once
abbrev pub op_gives : List (Option GlobalValue) → Bool → ConstOp → Bool
op_gives slots wide (ops.GlobalGet id) = global_gives wide (item_at slots (place id))
op_gives slots wide (ops.I32Const n) = not wide
op_gives slots wide (ops.I64Const n) = wide
op_gives slots wide (ops.F32Const bits) = false
op_gives slots wide (ops.F64Const bits) = false
op_gives slots wide (ops.V128Const bytes) = false
op_gives slots wide (ops.RefNull heap) = false
op_gives slots wide (ops.RefFunc id) = false
op_gives slots wide ops.I32Add = true
op_gives slots wide ops.I32Sub = true
op_gives slots wide ops.I32Mul = true
op_gives slots wide ops.I64Add = true
op_gives slots wide ops.I64Sub = true
op_gives slots wide ops.I64Mul = true
op_gives slots wide (ops.StructNew id) = true
op_gives slots wide (ops.StructNewDefault id) = true
op_gives slots wide (ops.ArrayNew id) = true
op_gives slots wide (ops.ArrayNewDefault id) = true
op_gives slots wide (ops.ArrayNewFixed id count) = true
op_gives slots wide ops.AnyConvertExtern = true
op_gives slots wide ops.ExternConvertAny = true
op_gives slots wide ops.RefI31 = true

-- so does the only one of these, if there is only one
abbrev pub ops_give : List (Option GlobalValue) → Bool → List ConstOp → Bool
ops_give slots wide [] = true
ops_give slots wide (op ∷ []) = op_gives slots wide op
ops_give slots wide (op ∷ next ∷ rest) = true

abbrev pub offset_gives : List (Option GlobalValue) → Bool → ConstExpr → Bool
offset_gives slots wide (expressions.Value v) = value_gives wide v
offset_gives slots wide (expressions.Global id) = global_gives wide (item_at slots (place id))
offset_gives slots wide (expressions.RefNull ty) = false
offset_gives slots wide (expressions.RefFunc id) = false
offset_gives slots wide (expressions.Extended all) = ops_give slots wide all.items

-- the offset in a table or a memory, if that is there
abbrev pub table_takes : List (Option GlobalValue) → Option TableValue → ConstExpr → Bool
table_takes slots None offset = true
table_takes slots (Some t) offset = offset_gives slots t.table64 offset

abbrev pub memory_takes : List (Option GlobalValue) → Option MemoryValue → ConstExpr → Bool
memory_takes slots None offset = true
memory_takes slots (Some m) offset = offset_gives slots m.memory64 offset

abbrev pub element_is_placed : List (Option GlobalValue) → List (Option TableValue) → ElementKind → Bool
element_is_placed slots tables (element_kinds.Active table offset) = table_takes slots (item_at tables (place table)) offset
element_is_placed slots tables element_kinds.Passive = true
element_is_placed slots tables element_kinds.Declared = true

abbrev pub data_is_placed : List (Option GlobalValue) → List (Option MemoryValue) → DataKind → Bool
data_is_placed slots memories (data_kinds.Active memory offset) = memory_takes slots (item_at memories (place memory)) offset
data_is_placed slots memories data_kinds.Passive = true

-- ---- forms that bytes spell

abbrev pub val_is_spelled : ValType ℕ → Bool
val_is_spelled v = not (val_is_exact v)

abbrev pub storage_is_spelled : StorageType ℕ → Bool
storage_is_spelled (Unpacked v) = val_is_spelled v
storage_is_spelled I8 = true
storage_is_spelled I16 = true

abbrev pub field_is_spelled : FieldType ℕ → Bool
field_is_spelled x = storage_is_spelled x.storage

abbrev pub comp_is_spelled : CompType ℕ → Bool
comp_is_spelled (Func params results) = list_all val_is_spelled params && list_all val_is_spelled results
comp_is_spelled (Struct fields) = list_all field_is_spelled fields
comp_is_spelled (Array element) = field_is_spelled element

abbrev pub type_is_spelled : TypeDef → Bool
type_is_spelled t = comp_is_spelled t.sub.comp

-- the same of one that stands beside the place of its id
abbrev pub entry_is_spelled : ℕ × TypeDef → Bool
entry_is_spelled e = type_is_spelled e.1

abbrev pub op_is_spelled : ConstOp → Bool
op_is_spelled (ops.RefNull heap) = not (heap_is_exact (heap_type heap))
op_is_spelled op = true

abbrev pub const_is_spelled : ConstExpr → Bool
const_is_spelled (expressions.RefNull ty) = not (heap_is_exact (heap_type ty.heap_type))
const_is_spelled (expressions.Extended all) = not (is_nothing all.items) && list_all op_is_spelled all.items
const_is_spelled e = true

abbrev pub option_is_spelled : Option ConstExpr → Bool
option_is_spelled None = true
option_is_spelled (Some e) = const_is_spelled e

abbrev pub table_is_spelled : TableValue → Bool
table_is_spelled t = not (heap_is_exact t.element.heap) && (is_some t.imported_by || option_is_spelled t.initialiser)

abbrev pub global_is_spelled : GlobalValue → Bool
global_is_spelled g = val_is_spelled g.ty && option_is_spelled g.initialiser

abbrev pub element_kind_is_spelled : ElementKind → Bool
element_kind_is_spelled (element_kinds.Active table offset) = const_is_spelled offset
element_kind_is_spelled element_kinds.Passive = true
element_kind_is_spelled element_kinds.Declared = true

abbrev pub element_items_are_spelled : ElementItems → Bool
element_items_are_spelled (element_contents.Functions fs) = true
element_items_are_spelled (element_contents.Expressions ty es) = not (heap_is_exact (ref_type ty).heap) && list_all const_is_spelled es.items

abbrev pub element_is_spelled : ElementValue → Bool
element_is_spelled e = element_kind_is_spelled e.kind && element_items_are_spelled e.items

abbrev pub data_kind_is_spelled : DataKind → Bool
data_kind_is_spelled (data_kinds.Active memory offset) = const_is_spelled offset
data_kind_is_spelled data_kinds.Passive = true

abbrev pub data_is_spelled : DataValue → Bool
data_is_spelled d = data_kind_is_spelled d.kind

-- all forms of a module that stand outside bodies
abbrev pub forms_are_spelled : Contents → Bool
forms_are_spelled c =
    list_all entry_is_spelled (entries (type_slots c.types)) && list_all table_is_spelled (items (tables c.tables)) && list_all global_is_spelled (items (globals c.globals))
    && list_all element_is_spelled (items (elements c.elements)) && list_all data_is_spelled (items (data_segments c.data_))

-- ---- the rules together

pub record KeepsRules (v : Abstract) : Type 0 where
  pub function_types : FunctionTypesHold v
  pub limits : LimitsHold v
  pub exports : ExportsHold v
  pub offsets : OffsetsHold v
  pub locals : LocalsHold v

-- no rule is broken, or the one that is named
abbrev pub Judges : Abstract → Option BrokenRule → Type 0
Judges v None = KeepsRules v
Judges v (Some rule) = Breaks rule v
