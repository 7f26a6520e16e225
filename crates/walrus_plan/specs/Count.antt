-- Which segments are passive, and which functions name one.
use Rattle.std.specs.Prelude.{Bool, true, false}
use Rattle.std.specs.List.{list_any}
use Rattle.walrus_base.specs.Operators.{Types, Functions, Tables, Memories, Tags, Globals, Elements, DataSegments, Arg, Index, Label, Local, Number, Count, Byte, S32, S64, Bits32, Bits64, Value, Heap, Block, Access, Op}
use Rattle.walrus_items.specs.Function.{body_of}
use Rattle.walrus_items.specs.Data.{DataValue, is_passive_data}
use Rattle.walrus_items.specs.Functions.{FunctionValue}
use Rattle.walrus_items.specs.declared.function_kind.FunctionKind.{FunctionKind}
use Rattle.walrus_items.specs.declared.function_kind.FunctionKind.TheVariants as kind

abbrev pub is_passive_value : DataValue → Bool
is_passive_value d = is_passive_data d.kind

-- the argument is a data segment
abbrev pub arg_is_data : Arg → Bool
arg_is_data (Index (DataSegments, d)) = true
arg_is_data (Index (Types, i)) = false
arg_is_data (Index (Functions, i)) = false
arg_is_data (Index (Tables, i)) = false
arg_is_data (Index (Memories, i)) = false
arg_is_data (Index (Tags, i)) = false
arg_is_data (Index (Globals, i)) = false
arg_is_data (Index (Elements, i)) = false
arg_is_data (Label n) = false
arg_is_data (Local n) = false
arg_is_data (Number n) = false
arg_is_data (Count n) = false
arg_is_data (Byte n) = false
arg_is_data (S32 z) = false
arg_is_data (S64 z) = false
arg_is_data (Bits32 n) = false
arg_is_data (Bits64 n) = false
arg_is_data (Value v) = false
arg_is_data (Heap h) = false
arg_is_data (Block b) = false
arg_is_data (Access flags memory offset) = false

abbrev pub op_names_data : Op → Bool
op_names_data o = list_any arg_is_data o.args

-- a function of this kind has a body that names one
abbrev pub kind_names_data : FunctionKind → Bool
kind_names_data (kind.Local f) = list_any op_names_data (body_of f)
kind_names_data (kind.Import i) = false
kind_names_data (kind.Uninitialized ty) = false

abbrev pub one_names_data : FunctionValue → Bool
one_names_data f = kind_names_data f.kind
