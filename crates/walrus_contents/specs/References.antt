-- Functions that ref.func names ("Instructions > Reference Instructions"), and those that are declared: by an export, or in a segment of
-- elements ("Validation > Modules": the context's references).
use Rattle.std.specs.Prelude.{ℕ, List, [], ◌∷◌, ◌++◌, Option, Some, None, filter_map, flat_map, option_map, ◌==◌, if◌then◌else◌, map}
use Rattle.wasm_opcodes.specs.declared.one_byte.TheConstants.{REF_FUNC}
use Rattle.walrus_base.specs.Id.{place}
use Rattle.walrus_items.specs.Function.{body_of}
use Rattle.walrus_base.specs.ConstOps.{const_ops}
use Rattle.walrus_base.specs.Operators.{Types, Functions, Tables, Memories, Tags, Globals, Elements, DataSegments, Arg, Index, Label, Local, Number, Count, Byte, S32, S64, Bits32, Bits64, Value, Heap, Block, Access, Item, Op}
use Rattle.walrus_items.specs.Elements.{ElementValue}
use Rattle.walrus_items.specs.Functions.{FunctionValue}
use Rattle.walrus_items.specs.Kinds.{exported}
use Rattle.walrus_items.specs.declared.function_kind.FunctionKind.{FunctionKind}
use Rattle.walrus_items.specs.declared.function_kind.FunctionKind.TheVariants as kind
use Rattle.walrus_items.specs.declared.segments.ElementItems.{ElementItems}
use Rattle.walrus_items.specs.declared.segments.ElementItems.TheVariants as element_contents
use Rattle.walrus_items.specs.Globals.{GlobalValue}
use Rattle.walrus_items.specs.Exports.{ExportValue}

-- the function that the argument names
abbrev pub arg_ref : Arg → Option ℕ
arg_ref (Index (Functions, f)) = Some f
arg_ref (Index (Types, i)) = None
arg_ref (Index (Tables, i)) = None
arg_ref (Index (Memories, i)) = None
arg_ref (Index (Tags, i)) = None
arg_ref (Index (Globals, i)) = None
arg_ref (Index (Elements, i)) = None
arg_ref (Index (DataSegments, i)) = None
arg_ref (Label n) = None
arg_ref (Local n) = None
arg_ref (Number n) = None
arg_ref (Count n) = None
arg_ref (Byte n) = None
arg_ref (S32 z) = None
arg_ref (S64 z) = None
arg_ref (Bits32 n) = None
arg_ref (Bits64 n) = None
arg_ref (Value v) = None
arg_ref (Heap h) = None
arg_ref (Block b) = None
arg_ref (Access flags memory offset) = None

-- the same of the one argument, where there is just one
abbrev pub args_ref : List Arg → Option ℕ
args_ref [] = None
args_ref (arg ∷ []) = arg_ref arg
args_ref (arg ∷ other ∷ rest) = None

-- the function that the operator names, if it is ref.func
abbrev pub op_ref : Op → Option ℕ
op_ref o = if o.op == REF_FUNC then args_ref o.args else None

abbrev pub kind_refs : FunctionKind → List ℕ
kind_refs (kind.Local f) = filter_map op_ref (body_of f)
kind_refs (kind.Import i) = []
kind_refs (kind.Uninitialized ty) = []

abbrev pub function_refs : List FunctionValue → List ℕ
function_refs funcs = flat_map (λ f. kind_refs f.kind) funcs

-- those in an initialiser, if there is one
abbrev pub init_refs : Option (List Op) → List ℕ
init_refs None = []
init_refs (Some ops) = filter_map op_ref ops

abbrev pub global_refs : List GlobalValue → List ℕ
global_refs globals = flat_map (λ g. init_refs (option_map const_ops g.initialiser)) globals

-- those in bodies, then those in the initialisers of globals
abbrev pub named_refs : List FunctionValue → List GlobalValue → List ℕ
named_refs funcs globals = function_refs funcs ++ global_refs globals

-- ---- what is declared

-- the item, if it is a function
abbrev pub function_number : Item → Option ℕ
function_number (Functions, f) = Some f
function_number (Types, i) = None
function_number (Tables, i) = None
function_number (Memories, i) = None
function_number (Tags, i) = None
function_number (Globals, i) = None
function_number (Elements, i) = None
function_number (DataSegments, i) = None

-- the functions that are exported
abbrev pub export_refs : List ExportValue → List ℕ
export_refs exports = filter_map (λ e. function_number (exported e.item)) exports

-- the function that ref.func names, which stands alone
abbrev pub only_ref : List Op → Option ℕ
only_ref [] = None
only_ref (op ∷ []) = op_ref op
only_ref (op ∷ other ∷ rest) = None

-- the functions that a segment lists
abbrev pub listed_in : ElementItems → List ℕ
listed_in (element_contents.Functions fs) = map place fs.items
listed_in (element_contents.Expressions ty es) = filter_map only_ref (map const_ops es.items)

abbrev pub listed_refs : List ElementValue → List ℕ
listed_refs elements = flat_map (λ e. listed_in e.items) elements

-- those that are exported, then those that segments list
abbrev pub declared_refs : List ExportValue → List ElementValue → List ℕ
declared_refs exports elements = export_refs exports ++ listed_refs elements
