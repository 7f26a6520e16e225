-- The forms of the entries of the sections behind the type section (Binary Format > Modules).
use Rattle.std.specs.Prelude.{ℕ, Bool, true, false, List, [], ◌∷◌, Some, None, nat_eq}
use Rattle.wasm_opcodes.specs.declared.one_byte.TheConstants.{END, GLOBAL_GET, I32_CONST, I64_CONST, F32_CONST, F64_CONST, I32_ADD, I32_SUB, I32_MUL, I64_ADD, I64_SUB, I64_MUL, REF_NULL, REF_FUNC, PREFIX_FB, PREFIX_FD}
use Rattle.wasm_opcodes.specs.declared.behind_fb.TheConstants.{STRUCT_NEW, STRUCT_NEW_DEFAULT, ARRAY_NEW, ARRAY_NEW_DEFAULT, ARRAY_NEW_FIXED, ANY_CONVERT_EXTERN, EXTERN_CONVERT_ANY, REF_I31}
use Rattle.wasm_opcodes.specs.declared.behind_fd.TheConstants.{V128_CONST}
use Rattle.wasm_opcodes.specs.declared.types.TheConstants.{HEAP_FUNC, TABLE_WITH_INITIAL}
use Rattle.wasm_forms.specs.Grammar.{Form, Fails, Gives, Byte, Block, Bytes, U32, S32, S64, F32, F64, ◌then◌, Led, Made, Where, Until, Vector, choose, name}
use Rattle.wasm_forms.specs.declared.types.RawHeap.TheVariants.{Abstract}
use Rattle.wasm_forms.specs.declared.types.RawRef.{RawRef}
use Rattle.wasm_forms.specs.Types.{heap_type, reference_type}
use Rattle.wasm_entries.specs.declared.record.RawDesc.{RawDesc}
use Rattle.wasm_entries.specs.declared.record.RawDesc.TheVariants as descs
use Rattle.wasm_entries.specs.declared.record.RawConst.{RawConst}
use Rattle.wasm_entries.specs.declared.record.RawConst.TheVariants as ops
use Rattle.wasm_entries.specs.declared.record.RawExportKind.{RawExportKind}
use Rattle.wasm_entries.specs.declared.record.RawExportKind.TheVariants as kinds
use Rattle.wasm_entries.specs.TypeForms.{table_type, table_type_from, memory_type, global_type, tag_type}
use Rattle.wasm_entries.specs.Record.{Expression, Import, Table, Global, Export, ElementMode, ActiveElements, PassiveElements, DeclaredElements, Items, Functions, Expressions, Element, DataMode, ActiveData, PassiveData, Segment}

-- ---- imports (Import Section)

-- what stands behind the kind of an import: 0, a function, and 4, a tag, by the index of its type; 1 a table type, 2 a memory type, 3 a global type
unfoldable pub desc_from : ℕ → Form RawDesc
desc_from kind = choose (nat_eq kind 0) (Made descs.Function U32)
    (choose (nat_eq kind 1) (Made descs.Table table_type)
    (choose (nat_eq kind 2) (Made descs.Memory memory_type)
    (choose (nat_eq kind 3) (Made descs.Global global_type)
    (choose (nat_eq kind 4) (Made descs.Tag tag_type)
    Fails))))

-- what an import brings: the byte of its kind, and what this kind asks for
unfoldable pub desc : Form RawDesc
desc = Led Byte desc_from

-- an import: the module's name, the item's name, and what it brings
unfoldable pub import_form : Form Import
import_form = Made (λ x. record { from = x.0; name = x.1.0; desc = x.1.1 }) (name then name then desc)

-- ---- constant expressions (Binary Format > Instructions; Validation > Instructions > Constant Expressions)

-- what stands behind 0xFB and this number
unfoldable pub prefixed : ℕ → Form RawConst
prefixed number = choose (nat_eq number STRUCT_NEW) (Made ops.StructNew U32)
    (choose (nat_eq number STRUCT_NEW_DEFAULT) (Made ops.StructNewDefault U32)
    (choose (nat_eq number ARRAY_NEW) (Made ops.ArrayNew U32)
    (choose (nat_eq number ARRAY_NEW_DEFAULT) (Made ops.ArrayNewDefault U32)
    (choose (nat_eq number ARRAY_NEW_FIXED) (Made (λ x. ops.ArrayNewFixed x.0 x.1) (U32 then U32))
    (choose (nat_eq number ANY_CONVERT_EXTERN) (Gives ops.AnyConvertExtern)
    (choose (nat_eq number EXTERN_CONVERT_ANY) (Gives ops.ExternConvertAny)
    (choose (nat_eq number REF_I31) (Gives ops.RefI31)
    Fails)))))))

-- what stands behind 0xFD and this number
unfoldable pub vector_op : ℕ → Form RawConst
vector_op number = choose (nat_eq number V128_CONST) (Made ops.V128Const (Bytes 16)) Fails

-- the operator that begins with this byte
unfoldable pub const_from : ℕ → Form RawConst
const_from b = choose (nat_eq b GLOBAL_GET) (Made ops.GlobalGet U32)
    (choose (nat_eq b I32_CONST) (Made ops.I32Const S32)
    (choose (nat_eq b I64_CONST) (Made ops.I64Const S64)
    (choose (nat_eq b F32_CONST) (Made ops.F32Const F32)
    (choose (nat_eq b F64_CONST) (Made ops.F64Const F64)
    (choose (nat_eq b I32_ADD) (Gives ops.I32Add)
    (choose (nat_eq b I32_SUB) (Gives ops.I32Sub)
    (choose (nat_eq b I32_MUL) (Gives ops.I32Mul)
    (choose (nat_eq b I64_ADD) (Gives ops.I64Add)
    (choose (nat_eq b I64_SUB) (Gives ops.I64Sub)
    (choose (nat_eq b I64_MUL) (Gives ops.I64Mul)
    (choose (nat_eq b REF_NULL) (Made ops.RefNull heap_type)
    (choose (nat_eq b REF_FUNC) (Made ops.RefFunc U32)
    (choose (nat_eq b PREFIX_FB) (Led U32 prefixed)
    (choose (nat_eq b PREFIX_FD) (Led U32 vector_op)
    Fails))))))))))))))

-- whether a list has any item
abbrev pub is_some_there : {A : Type 0} → List A → Bool
is_some_there [] = false
is_some_there (x ∷ xs) = true

-- at least one operator, and then 0x0B
unfoldable pub expression_form : Form Expression
expression_form = Where is_some_there (Until END const_from)

-- ---- tables and globals (Table Section, Global Section)

-- a table by its first byte: 0x40 0x00, a table type and its initialiser; else a table type alone
unfoldable pub table_from : ℕ → Form Table
table_from b = choose (nat_eq b TABLE_WITH_INITIAL)
    (Led (Where (λ c. nat_eq c 0) Byte) (λ c. Made (λ x. record { ty = x.0; initial = Some x.1 }) (table_type then expression_form)))
    (Made (λ t. record { ty = t; initial = None }) (table_type_from b))

-- a table of the module: its type, or 0x40 0x00, its type and its initialiser
unfoldable pub table_form : Form Table
table_form = Led Byte table_from

-- a global of the module: its type, and the constant expression that initialises it
unfoldable pub global_form : Form Global
global_form = Made (λ x. record { ty = x.0; initial = x.1 }) (global_type then expression_form)

-- ---- exports (Export Section)

-- the kind of item that this byte names: 0 a function, 1 a table, 2 a memory, 3 a global, 4 a tag; no other byte names one
unfoldable pub kind_from : ℕ → Form RawExportKind
kind_from b = choose (nat_eq b 0) (Gives kinds.Function)
    (choose (nat_eq b 1) (Gives kinds.Table)
    (choose (nat_eq b 2) (Gives kinds.Memory)
    (choose (nat_eq b 3) (Gives kinds.Global)
    (choose (nat_eq b 4) (Gives kinds.Tag)
    Fails))))

-- the kind of item that an export names, by its byte
unfoldable pub kind_form : Form RawExportKind
kind_form = Led Byte kind_from

-- an export: its name, and the kind and the index of what it names
unfoldable pub export_form : Form Export
export_form = Made (λ x. record { name = x.0; kind = x.1.0; index = x.1.1 }) (name then kind_form then U32)

-- ---- element segments (Element Section)

-- funcref: a nullable reference to any function
abbrev pub any_function : RawRef
any_function = record { nullable = true; heap = Abstract HEAP_FUNC }

-- the functions that an element segment lists: a count, and so many function indices
unfoldable pub functions_form : Form Items
functions_form = Made Functions (Vector U32)

-- the functions that an element segment lists behind an element kind, 0x00
unfoldable pub kinded : Form Items
kinded = Led (Where (λ b. nat_eq b 0) Byte) (λ b. functions_form)

-- the expressions that an element segment lists behind their type: a reference type, a count, and so many constant expressions
unfoldable pub typed : Form Items
typed = Made (λ x. Expressions x.0 x.1) (reference_type then Vector expression_form)

-- the expressions that an element segment lists where their type isn't spelled: it is funcref
unfoldable pub of_functions : Form Items
of_functions = Made (Expressions any_function) (Vector expression_form)

-- the mode of an active element segment that names no table, which stands for table 0: the offset alone
unfoldable pub in_first : Form ElementMode
in_first = Made (ActiveElements None) expression_form

-- the mode of an active element segment in the table that is named: the table's index and the offset
unfoldable pub in_table : Form ElementMode
in_table = Made (λ x. ActiveElements (Some x.0) x.1) (U32 then expression_form)

-- an element segment whose mode and items have these forms, one behind the other
unfoldable pub segment_of : Form ElementMode → Form Items → Form Element
segment_of m i = Made (λ x. record { mode = x.0; items = x.1 }) (m then i)

-- what stands behind the flags of an element segment: 0 and 4 active without a named table, 2 and 6 active in a named one,
-- 1 and 5 passive, 3 and 7 declarative; up to 3 functions are listed, from 4 on expressions
unfoldable pub element_from : ℕ → Form Element
element_from flags = choose (nat_eq flags 0) (segment_of in_first functions_form)
    (choose (nat_eq flags 1) (segment_of (Gives PassiveElements) kinded)
    (choose (nat_eq flags 2) (segment_of in_table kinded)
    (choose (nat_eq flags 3) (segment_of (Gives DeclaredElements) kinded)
    (choose (nat_eq flags 4) (segment_of in_first of_functions)
    (choose (nat_eq flags 5) (segment_of (Gives PassiveElements) typed)
    (choose (nat_eq flags 6) (segment_of in_table typed)
    (choose (nat_eq flags 7) (segment_of (Gives DeclaredElements) typed)
    Fails)))))))

-- an element segment: its flags, from 0 to 7, and what these ask for
unfoldable pub element_form : Form Element
element_form = Led U32 element_from

-- ---- data segments (Data Section)

-- a data segment whose mode has this form: the mode, a count of bytes, and these
unfoldable pub data_with : Form DataMode → Form Segment
data_with m = Made (λ x. record { mode = x.0; bytes = x.1 }) (m then Block)

-- what stands behind the flags of a data segment: 0 active in memory 0, 1 passive, 2 active in the memory that is named
unfoldable pub data_from : ℕ → Form Segment
data_from flags = choose (nat_eq flags 0) (data_with (Made (ActiveData 0) expression_form))
    (choose (nat_eq flags 1) (data_with (Gives PassiveData))
    (choose (nat_eq flags 2) (data_with (Made (λ x. ActiveData x.0 x.1) (U32 then expression_form)))
    Fails))

-- a data segment: its flags, from 0 to 2, and what these ask for
unfoldable pub data_form : Form Segment
data_form = Led U32 data_from
