-- The one spelling of the entries behind the type section, and which of them it spells.
use Rattle.std.specs.Prelude.{ℕ, ◌≡◌, ◌≢◌, ◌<◌, ◌^◌, List, [], ◌∷◌, ◌++◌, length, Option, Some, None, nat_eq, All, if◌then◌else◌}
use Rattle.wasm_opcodes.specs.declared.one_byte.TheConstants.{END, GLOBAL_GET, I32_CONST, I64_CONST, F32_CONST, F64_CONST, I32_ADD, I32_SUB, I32_MUL, I64_ADD, I64_SUB, I64_MUL, REF_NULL, REF_FUNC, PREFIX_FB, PREFIX_FD}
use Rattle.wasm_opcodes.specs.declared.behind_fb.TheConstants.{STRUCT_NEW, STRUCT_NEW_DEFAULT, ARRAY_NEW, ARRAY_NEW_DEFAULT, ARRAY_NEW_FIXED, ANY_CONVERT_EXTERN, EXTERN_CONVERT_ANY, REF_I31}
use Rattle.wasm_opcodes.specs.declared.behind_fd.TheConstants.{V128_CONST}
use Rattle.wasm_opcodes.specs.declared.types.TheConstants.{TABLE_WITH_INITIAL}
use Rattle.std.specs.Str.{IsUtf8}
use Rattle.wasm_forms.specs.Number.{Fits}
use Rattle.wasm_forms.specs.Spelling.{number_bytes, integer_bytes, f32_bytes, f64_bytes, block_bytes, row_bytes, vector_bytes}
use Rattle.wasm_forms.specs.Writing.{FitsLength}
use Rattle.wasm_forms.specs.Types.{heap_bytes, reference_bytes, HeapStands}
use Rattle.wasm_entries.specs.declared.record.RawDesc.{RawDesc}
use Rattle.wasm_entries.specs.declared.record.RawDesc.TheVariants as descs
use Rattle.wasm_entries.specs.declared.record.RawConst.{RawConst}
use Rattle.wasm_entries.specs.declared.record.RawConst.TheVariants as ops
use Rattle.wasm_entries.specs.declared.record.RawExportKind.{RawExportKind}
use Rattle.wasm_entries.specs.declared.record.RawExportKind.TheVariants as kinds
use Rattle.wasm_entries.specs.TypeSpelling.{table_type_bytes, limits_bytes, global_type_bytes, LimitsFit, LimitsStand, TableTypeStands, GlobalTypeStands}
use Rattle.wasm_entries.specs.Forms.{any_function}
use Rattle.wasm_entries.specs.Record.{Expression, Import, Table, Global, Export, ElementMode, ActiveElements, PassiveElements, DeclaredElements, Items, Functions, Expressions, Element, DataMode, ActiveData, PassiveData, Segment}

-- ---- spelling

-- the bytes of what an import brings: the byte of its kind, and its type, that of a function or a tag by its index (Import Section)
abbrev pub desc_bytes : RawDesc → List ℕ
desc_bytes (descs.Function ty) = 0 ∷ number_bytes ty
desc_bytes (descs.Table t) = 1 ∷ table_type_bytes t
desc_bytes (descs.Memory l) = 2 ∷ limits_bytes l
desc_bytes (descs.Global g) = 3 ∷ global_type_bytes g
desc_bytes (descs.Tag ty) = 4 ∷ 0 ∷ number_bytes ty

-- the bytes of an import: the module's name, the item's name, and what it brings (Import Section)
abbrev pub import_bytes : Import → List ℕ
import_bytes i = block_bytes i.from ++ block_bytes i.name ++ desc_bytes i.desc

-- the bytes of one instruction of a constant expression: its opcode and its immediates (Binary Format > Instructions)
abbrev pub const_bytes : RawConst → List ℕ
const_bytes (ops.GlobalGet g) = GLOBAL_GET ∷ number_bytes g
const_bytes (ops.I32Const z) = I32_CONST ∷ integer_bytes z
const_bytes (ops.I64Const z) = I64_CONST ∷ integer_bytes z
const_bytes (ops.F32Const bits) = F32_CONST ∷ f32_bytes bits
const_bytes (ops.F64Const bits) = F64_CONST ∷ f64_bytes bits
const_bytes (ops.V128Const bytes) = PREFIX_FD ∷ V128_CONST ∷ bytes
const_bytes ops.I32Add = I32_ADD ∷ []
const_bytes ops.I32Sub = I32_SUB ∷ []
const_bytes ops.I32Mul = I32_MUL ∷ []
const_bytes ops.I64Add = I64_ADD ∷ []
const_bytes ops.I64Sub = I64_SUB ∷ []
const_bytes ops.I64Mul = I64_MUL ∷ []
const_bytes (ops.RefNull h) = REF_NULL ∷ heap_bytes h
const_bytes (ops.RefFunc f) = REF_FUNC ∷ number_bytes f
const_bytes (ops.StructNew t) = PREFIX_FB ∷ STRUCT_NEW ∷ number_bytes t
const_bytes (ops.StructNewDefault t) = PREFIX_FB ∷ STRUCT_NEW_DEFAULT ∷ number_bytes t
const_bytes (ops.ArrayNew t) = PREFIX_FB ∷ ARRAY_NEW ∷ number_bytes t
const_bytes (ops.ArrayNewDefault t) = PREFIX_FB ∷ ARRAY_NEW_DEFAULT ∷ number_bytes t
const_bytes (ops.ArrayNewFixed t n) = PREFIX_FB ∷ ARRAY_NEW_FIXED ∷ (number_bytes t ++ number_bytes n)
const_bytes ops.AnyConvertExtern = PREFIX_FB ∷ ANY_CONVERT_EXTERN ∷ []
const_bytes ops.ExternConvertAny = PREFIX_FB ∷ EXTERN_CONVERT_ANY ∷ []
const_bytes ops.RefI31 = PREFIX_FB ∷ REF_I31 ∷ []

-- the bytes of a constant expression: its instructions, and 0x0B, the end (Binary Format > Instructions > Expressions)
abbrev pub expression_bytes : Expression → List ℕ
expression_bytes e = row_bytes const_bytes e ++ END ∷ []

-- the bytes of a table whose type has these bytes: with an initialiser 0x40 0x00, the type and the expression, else the type alone (Table Section)
abbrev pub table_spelled : Option Expression → List ℕ → List ℕ
table_spelled None ty = ty
table_spelled (Some e) ty = TABLE_WITH_INITIAL ∷ 0 ∷ (ty ++ expression_bytes e)

-- the bytes of a table of the module: its type, and its initialiser where it has one (Table Section)
abbrev pub table_bytes : Table → List ℕ
table_bytes t = table_spelled t.initial (table_type_bytes t.ty)

-- the bytes of a global of the module: its type and its initialiser (Global Section)
abbrev pub global_bytes : Global → List ℕ
global_bytes g = global_type_bytes g.ty ++ expression_bytes g.initial

-- the byte of the kind of item that an export names (Export Section)
abbrev pub kind_byte : RawExportKind → ℕ
kind_byte kinds.Function = 0
kind_byte kinds.Table = 1
kind_byte kinds.Memory = 2
kind_byte kinds.Global = 3
kind_byte kinds.Tag = 4

-- the bytes of an export: its name, the byte of its kind, and the index of what it names (Export Section)
abbrev pub export_bytes : Export → List ℕ
export_bytes e = block_bytes e.name ++ kind_byte e.kind ∷ number_bytes e.index

-- the bytes of an element segment of this mode with these items, flags from 0 to 7 in front;
-- expressions of an active one that names no table come without their type (Element Section)
abbrev pub element_spelled : ElementMode → Items → List ℕ
element_spelled (ActiveElements None offset) (Functions fs) = 0 ∷ (expression_bytes offset ++ vector_bytes number_bytes fs)
element_spelled PassiveElements (Functions fs) = 1 ∷ 0 ∷ vector_bytes number_bytes fs
element_spelled (ActiveElements (Some table) offset) (Functions fs) = 2 ∷ (number_bytes table ++ expression_bytes offset ++ 0 ∷ vector_bytes number_bytes fs)
element_spelled DeclaredElements (Functions fs) = 3 ∷ 0 ∷ vector_bytes number_bytes fs
element_spelled (ActiveElements None offset) (Expressions ty es) = 4 ∷ (expression_bytes offset ++ vector_bytes expression_bytes es)
element_spelled PassiveElements (Expressions ty es) = 5 ∷ (reference_bytes ty ++ vector_bytes expression_bytes es)
element_spelled (ActiveElements (Some table) offset) (Expressions ty es) = 6 ∷ (number_bytes table ++ expression_bytes offset ++ reference_bytes ty ++ vector_bytes expression_bytes es)
element_spelled DeclaredElements (Expressions ty es) = 7 ∷ (reference_bytes ty ++ vector_bytes expression_bytes es)

-- the bytes of an element segment: its flags, and the table, the offset, the kind or type and the items as these flags ask for them (Element Section)
abbrev pub element_bytes : Element → List ℕ
element_bytes e = element_spelled e.mode e.items

-- the bytes of a data segment's mode: 1 passive; 0 and an offset, in memory 0; 2, a memory's index and an offset, in another memory (Data Section)
abbrev pub data_mode_bytes : DataMode → List ℕ
data_mode_bytes PassiveData = 1 ∷ []
data_mode_bytes (ActiveData memory offset) = if nat_eq memory 0 then 0 ∷ expression_bytes offset else 2 ∷ (number_bytes memory ++ expression_bytes offset)

-- the bytes of a data segment: its mode, and its contents behind their count (Data Section)
abbrev pub data_bytes : Segment → List ℕ
data_bytes d = data_mode_bytes d.mode ++ block_bytes d.bytes

-- ---- what fits: counts, sizes, and limits that aren't wide, below 2 ^ 32

-- what an import brings fits: the limits of a table or of a memory do; a function, a global and a tag always fit
abbrev pub DescFits : RawDesc → Type 0
DescFits (descs.Function ty) = Unit {0}
DescFits (descs.Table t) = LimitsFit t.limits
DescFits (descs.Memory l) = LimitsFit l
DescFits (descs.Global g) = Unit {0}
DescFits (descs.Tag ty) = Unit {0}

-- an import fits: both names are shorter than 2 ^ 32 bytes, and what it brings fits
abbrev pub ImportFits : Import → Type 0
ImportFits i = FitsLength i.from × FitsLength i.name × DescFits i.desc

-- a table fits: the limits of its type do; nothing is asked of its initialiser
abbrev pub TableFits : Table → Type 0
TableFits t = LimitsFit t.ty.limits

-- an export fits: its name is shorter than 2 ^ 32 bytes
abbrev pub ExportFits : Export → Type 0
ExportFits e = FitsLength e.name

-- what an element segment lists fits: it is fewer than 2 ^ 32 functions or expressions
abbrev pub ItemsFit : Items → Type 0
ItemsFit (Functions fs) = FitsLength fs
ItemsFit (Expressions ty es) = FitsLength es

-- an element segment fits: it lists fewer than 2 ^ 32 functions or expressions
abbrev pub ElementFits : Element → Type 0
ElementFits e = ItemsFit e.items

-- a data segment fits: it has fewer than 2 ^ 32 bytes
abbrev pub DataFits : Segment → Type 0
DataFits d = FitsLength d.bytes

-- ---- what is spelled at all: numbers in the range of their kind, names that are text, expressions that aren't empty

-- the number is in the range of an index, below 2 ^ 32; that something has this index isn't asked
abbrev pub IsIndex : ℕ → Type 0
IsIndex n = n < 2 ^ 32

-- what an import brings has a spelling: the index of a function's or a tag's type is below 2 ^ 32, the type of a table, memory or global has a spelling
abbrev pub DescStands : RawDesc → Type 0
DescStands (descs.Function ty) = IsIndex ty
DescStands (descs.Table t) = TableTypeStands t
DescStands (descs.Memory l) = LimitsStand l
DescStands (descs.Global g) = GlobalTypeStands g
DescStands (descs.Tag ty) = IsIndex ty

-- an import has a spelling: both names are UTF-8, and what it brings has one
pub record ImportStands (i : Import) : Type 0 where
  pub from : IsUtf8 i.from
  pub name : IsUtf8 i.name
  pub desc : DescStands i.desc

-- an instruction of a constant expression has a spelling: its immediates, where it has such, are in the range of their kind
abbrev pub ConstStands : RawConst → Type 0
ConstStands (ops.GlobalGet g) = IsIndex g
ConstStands (ops.I32Const z) = Fits (2 ^ 31) z
ConstStands (ops.I64Const z) = Fits (2 ^ 63) z
ConstStands (ops.F32Const bits) = bits < 2 ^ 32
ConstStands (ops.F64Const bits) = bits < 2 ^ 64
ConstStands (ops.V128Const bytes) = length bytes ≡ 16
ConstStands (ops.RefNull h) = HeapStands h
ConstStands (ops.RefFunc f) = IsIndex f
ConstStands (ops.StructNew t) = IsIndex t
ConstStands (ops.StructNewDefault t) = IsIndex t
ConstStands (ops.ArrayNew t) = IsIndex t
ConstStands (ops.ArrayNewDefault t) = IsIndex t
ConstStands (ops.ArrayNewFixed t n) = IsIndex t × IsIndex n
ConstStands op = Unit {0}

-- a constant expression has a spelling: it has at least one instruction, and each of them has a spelling
abbrev pub ExpressionStands : Expression → Type 0
ExpressionStands e = (e ≢ []) × All ConstStands e

-- a table's initialiser, where there is one, has a spelling
abbrev pub InitialStands : Option Expression → Type 0
InitialStands None = Unit {0}
InitialStands (Some e) = ExpressionStands e

-- a table has a spelling: its type has one, and its initialiser, where there is one
pub record TableStands (t : Table) : Type 0 where
  pub ty : TableTypeStands t.ty
  pub initial : InitialStands t.initial

-- a global has a spelling: its type and its initialiser have one
pub record GlobalStands (g : Global) : Type 0 where
  pub ty : GlobalTypeStands g.ty
  pub initial : ExpressionStands g.initial

-- an export has a spelling: its name is UTF-8, and its index is below 2 ^ 32
pub record ExportStands (e : Export) : Type 0 where
  pub name : IsUtf8 e.name
  pub index : IsIndex e.index

-- what an element segment has, used so, has a spelling: indices below 2 ^ 32, expressions and their type with one,
-- and funcref as this type where an active segment names no table
abbrev pub ElementsStand : ElementMode → Items → Type 0
ElementsStand (ActiveElements None offset) (Functions fs) = ExpressionStands offset × All IsIndex fs
ElementsStand (ActiveElements None offset) (Expressions ty es) = ExpressionStands offset × (ty ≡ any_function) × All ExpressionStands es
ElementsStand (ActiveElements (Some table) offset) (Functions fs) = IsIndex table × ExpressionStands offset × All IsIndex fs
ElementsStand (ActiveElements (Some table) offset) (Expressions ty es) = IsIndex table × ExpressionStands offset × HeapStands ty.heap × All ExpressionStands es
ElementsStand PassiveElements (Functions fs) = All IsIndex fs
ElementsStand PassiveElements (Expressions ty es) = HeapStands ty.heap × All ExpressionStands es
ElementsStand DeclaredElements (Functions fs) = All IsIndex fs
ElementsStand DeclaredElements (Expressions ty es) = HeapStands ty.heap × All ExpressionStands es

-- an element segment has a spelling: its indices are below 2 ^ 32, its expressions and their type have a spelling,
-- and this type is funcref where an active segment names no table
abbrev pub ElementStands : Element → Type 0
ElementStands e = ElementsStand e.mode e.items

-- the mode of a data segment has a spelling: of an active one, the memory's index is below 2 ^ 32, and the offset has a spelling
abbrev pub DataModeStands : DataMode → Type 0
DataModeStands PassiveData = Unit {0}
DataModeStands (ActiveData memory offset) = IsIndex memory × ExpressionStands offset

-- a data segment has a spelling: its mode has one; nothing is asked of its bytes
abbrev pub DataStands : Segment → Type 0
DataStands d = DataModeStands d.mode
