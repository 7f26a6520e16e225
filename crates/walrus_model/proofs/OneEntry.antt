-- Entries are told by what they say: each comes back from that.
use Rattle.std.proofs.Common.{◌≡◌, ℕ, Bool, false, List, [], ◌∷◌, map, refl, sym, ap, ap₂, ◌∙◌}
use Rattle.std.specs.Prelude.{Option, Some, None, option_map, unwrap_or, All, nat_eq, if◌then◌else◌}
use Rattle.wasm_forms.specs.declared.types.RawHeap.{RawHeap}
use Rattle.wasm_forms.specs.declared.types.RawHeap.TheVariants as raw_heap
use Rattle.wasm_forms.specs.declared.types.RawRef.{RawRef}
use Rattle.wasm_forms.specs.declared.types.RawVal.{RawVal}
use Rattle.wasm_forms.specs.Types.{HeapStands}
use Rattle.wasm_entries.specs.declared.record.RawConst.{RawConst}
use Rattle.wasm_entries.specs.declared.record.RawConst.TheVariants as ops
use Rattle.wasm_entries.specs.declared.record.RawLimits.{RawLimits}
use Rattle.wasm_entries.specs.declared.record.RawTableType.{RawTableType}
use Rattle.wasm_entries.specs.declared.record.RawGlobalType.{RawGlobalType}
use Rattle.wasm_entries.specs.declared.record.RawExportKind.{RawExportKind}
use Rattle.wasm_entries.specs.declared.record.RawExportKind.TheVariants as kinds
use Rattle.wasm_entries.specs.TypeSpelling.{TableTypeStands, GlobalTypeStands}
use Rattle.wasm_entries.specs.Spelling.{ConstStands, ExpressionStands, InitialStands, TableStands, GlobalStands, DataStands, DataModeStands}
use Rattle.wasm_entries.specs.Record as entries
use Rattle.walrus_base.specs.Types.{RefType}
use Rattle.walrus_base.specs.Operators.{Space, Functions, Tables, Memories, Tags, Globals, Arg, Index, Number, Byte, S32, S64, Bits32, Bits64, Heap, Op}
use Rattle.walrus_model.specs.Abstract.{TableType, MemoryType, GlobalType, Table, Global, DataKind, PassiveData, ActiveData, DataSegment, Export}
use Rattle.walrus_model.specs.Constants.{const_of, consts_of}
use Rattle.walrus_model.specs.Sections.{ref_of, table_type_of, global_type_of, table_of, global_of, data_kind, data_of, export_of, space_of}
use Rattle.walrus_groups.proofs.OneGroup.{map_back, heap_stands, val_stands}
use Rattle.walrus_functions.proofs.OneText.{raw_heap_of, raw_val_of, heap_back, val_back}

-- ---- constant expressions

abbrev index_in : List Arg → ℕ
index_in (Index x ∷ args) = x.1
index_in args = 0

abbrev bits_in : List Arg → ℕ
bits_in (Bits32 n ∷ args) = n
bits_in (Bits64 n ∷ args) = n
bits_in args = 0

abbrev byte_in : Arg → ℕ
byte_in (Byte n) = n
byte_in arg = 0

abbrev heap_in : List Arg → RawHeap
heap_in (Heap h ∷ args) = raw_heap_of h
heap_in args = raw_heap.Index 0

abbrev number_in : List Arg → ℕ
number_in (x ∷ (Number n ∷ args)) = n
number_in args = 0

abbrev const_by : ℕ → List Arg → RawConst
const_by op args =
    if nat_eq op 0x23 then ops.GlobalGet (index_in args)
    else if nat_eq op 0x43 then ops.F32Const (bits_in args)
    else if nat_eq op 0x44 then ops.F64Const (bits_in args)
    else if nat_eq op 0xFD000C then ops.V128Const (map byte_in args)
    else if nat_eq op 0x6A then ops.I32Add
    else if nat_eq op 0x6B then ops.I32Sub
    else if nat_eq op 0x6C then ops.I32Mul
    else if nat_eq op 0x7C then ops.I64Add
    else if nat_eq op 0x7D then ops.I64Sub
    else if nat_eq op 0x7E then ops.I64Mul
    else if nat_eq op 0xD0 then ops.RefNull (heap_in args)
    else if nat_eq op 0xD2 then ops.RefFunc (index_in args)
    else if nat_eq op 0xFB0000 then ops.StructNew (index_in args)
    else if nat_eq op 0xFB0001 then ops.StructNewDefault (index_in args)
    else if nat_eq op 0xFB0006 then ops.ArrayNew (index_in args)
    else if nat_eq op 0xFB0007 then ops.ArrayNewDefault (index_in args)
    else if nat_eq op 0xFB0008 then ops.ArrayNewFixed (index_in args) (number_in args)
    else if nat_eq op 0xFB001A then ops.AnyConvertExtern
    else if nat_eq op 0xFB001B then ops.ExternConvertAny
    else ops.RefI31

abbrev const_in : ℕ → List Arg → RawConst
const_in op (S32 z ∷ args) = ops.I32Const z
const_in op (S64 z ∷ args) = ops.I64Const z
const_in op args = const_by op args

abbrev raw_const : Op → RawConst
raw_const o = const_in o.op o.args

bytes_back : (bytes : List ℕ) → map byte_in (map Byte bytes) ≡ bytes
bytes_back [] = refl
bytes_back (b ∷ bs) = ap (λ l. b ∷ l) (bytes_back bs)

vector_in : (bytes : List ℕ) → const_in 0xFD000C (map Byte bytes) ≡ ops.V128Const bytes
vector_in [] = refl
vector_in (b ∷ bs) = ap ops.V128Const (bytes_back (b ∷ bs))

const_back : (x : RawConst) → ConstStands x → raw_const (const_of x) ≡ x
const_back (ops.GlobalGet g) h = refl
const_back (ops.I32Const z) h = refl
const_back (ops.I64Const z) h = refl
const_back (ops.F32Const bits) h = refl
const_back (ops.F64Const bits) h = refl
const_back (ops.V128Const bytes) h = vector_in bytes
const_back ops.I32Add h = refl
const_back ops.I32Sub h = refl
const_back ops.I32Mul h = refl
const_back ops.I64Add h = refl
const_back ops.I64Sub h = refl
const_back ops.I64Mul h = refl
const_back (ops.RefNull t) h = ap ops.RefNull (heap_back t (heap_stands t h))
const_back (ops.RefFunc f) h = refl
const_back (ops.StructNew t) h = refl
const_back (ops.StructNewDefault t) h = refl
const_back (ops.ArrayNew t) h = refl
const_back (ops.ArrayNewDefault t) h = refl
const_back (ops.ArrayNewFixed t n) h = refl
const_back ops.AnyConvertExtern h = refl
const_back ops.ExternConvertAny h = refl
const_back ops.RefI31 h = refl

abbrev pub raw_consts : List Op → entries.Expression
raw_consts os = map raw_const os

pub consts_back : (e : entries.Expression) → ExpressionStands e → raw_consts (consts_of e) ≡ e
consts_back e h = map_back const_of raw_const ConstStands const_back e h.1

pub all_consts_back : (es : List entries.Expression) → All ExpressionStands es → map raw_consts (map consts_of es) ≡ es
all_consts_back es h = map_back consts_of raw_consts ExpressionStands consts_back es h

-- ---- types of items

abbrev pub raw_ref : RefType ℕ → RawRef
raw_ref r = record { nullable = r.nullable; heap = raw_heap_of r.heap }

pub ref_back : (r : RawRef) → HeapStands r.heap → raw_ref (ref_of r) ≡ r
ref_back r h = ap (λ (t : RawHeap). record { nullable = r.nullable; heap = t }) (heap_back r.heap (heap_stands r.heap h))

abbrev pub raw_memory : MemoryType → RawLimits
raw_memory m = record { minimum = m.limits.minimum; maximum = m.limits.maximum; shared = m.shared; wide = m.limits.wide; page = m.page_exponent }

abbrev pub raw_table_type : TableType → RawTableType
raw_table_type t = record { element = raw_ref t.element; limits = record { minimum = t.limits.minimum; maximum = t.limits.maximum; shared = false; wide = t.limits.wide; page = None } }

pub table_type_back : (t : RawTableType) → TableTypeStands t → raw_table_type (table_type_of t) ≡ t
table_type_back t h =
    ap (λ (r : RawRef). record { element = r; limits = record { minimum = t.limits.minimum; maximum = t.limits.maximum; shared = false; wide = t.limits.wide; page = None } }) (ref_back t.element h.element)
    ∙ ap₂ (λ (b : Bool) (p : Option ℕ). record { element = t.element; limits = record { minimum = t.limits.minimum; maximum = t.limits.maximum; shared = b; wide = t.limits.wide; page = p } }) (sym h.not_shared) (sym h.no_page)

abbrev pub raw_global_type : GlobalType → RawGlobalType
raw_global_type g = record { value = raw_val_of g.value; mutable = g.mutable; shared = g.shared }

pub global_type_back : (g : RawGlobalType) → GlobalTypeStands g → raw_global_type (global_type_of g) ≡ g
global_type_back g h = ap (λ (v : RawVal). record { value = v; mutable = g.mutable; shared = g.shared }) (val_back g.value (val_stands g.value h))

-- ---- tables, memories, globals

initial_back : (i : Option entries.Expression) → InitialStands i → option_map raw_consts (option_map consts_of i) ≡ i
initial_back None h = refl
initial_back (Some e) h = ap Some (consts_back e h)

abbrev pub raw_table : Table → entries.Table
raw_table t = record { ty = raw_table_type t.ty; initial = option_map raw_consts t.initialiser }

pub table_back : (t : entries.Table) → TableStands t → raw_table (table_of t) ≡ t
table_back t h = ap₂ (λ (ty : RawTableType) (i : Option entries.Expression). record { ty = ty; initial = i }) (table_type_back t.ty h.ty) (initial_back t.initial h.initial)

abbrev pub raw_global : Global → entries.Global
raw_global g = record { ty = raw_global_type g.ty; initial = raw_consts (unwrap_or g.initialiser []) }

pub global_back : (g : entries.Global) → GlobalStands g → raw_global (global_of g) ≡ g
global_back g h = ap₂ (λ (ty : RawGlobalType) (i : entries.Expression). record { ty = ty; initial = i }) (global_type_back g.ty h.ty) (consts_back g.initial h.initial)

-- ---- exports

abbrev kind_in : Space → RawExportKind
kind_in Functions = kinds.Function
kind_in Tables = kinds.Table
kind_in Memories = kinds.Memory
kind_in Globals = kinds.Global
kind_in Tags = kinds.Tag
kind_in space = kinds.Function

kind_back : (k : RawExportKind) → kind_in (space_of k) ≡ k
kind_back kinds.Function = refl
kind_back kinds.Table = refl
kind_back kinds.Memory = refl
kind_back kinds.Global = refl
kind_back kinds.Tag = refl

abbrev pub raw_export : Export → entries.Export
raw_export e = record { name = e.name; kind = kind_in e.item.0; index = e.item.1 }

pub export_back : (e : entries.Export) → raw_export (export_of e) ≡ e
export_back e = ap (λ (k : RawExportKind). record { name = e.name; kind = k; index = e.index }) (kind_back e.kind)

-- ---- data segments

abbrev raw_data_mode : DataKind → entries.DataMode
raw_data_mode (ActiveData memory offset) = entries.ActiveData memory (raw_consts offset)
raw_data_mode PassiveData = entries.PassiveData

mode_back : (m : entries.DataMode) → DataModeStands m → raw_data_mode (data_kind m) ≡ m
mode_back (entries.ActiveData memory offset) h = ap (entries.ActiveData memory) (consts_back offset h.1)
mode_back entries.PassiveData h = refl

abbrev pub raw_data : DataSegment → entries.Segment
raw_data d = record { mode = raw_data_mode d.kind; bytes = d.value }

pub data_back : (d : entries.Segment) → DataStands d → raw_data (data_of d) ≡ d
data_back d h = ap (λ (m : entries.DataMode). record { mode = m; bytes = d.bytes }) (mode_back d.mode h)
