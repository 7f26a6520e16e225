-- What a contract sees of an operator in memory: the standard's operators, with the place of each id.
use Rattle.std.specs.Prelude.{List, [], ◌∷◌, map}
use Rattle.walrus_base.specs.Id.{place}
use Rattle.walrus_base.specs.Value.{heap_type, val_type}
use Rattle.walrus_base.specs.Operators.{Item, Types, Functions, Tables, Memories, Tags, Globals, Elements, DataSegments, BlockType, NoResult, OneResult, OfType, Arg, Index, Label, Local, Number, Count, Byte, S32, S64, Bits32, Bits64, Value, Heap, Block, Access, Op}
use Rattle.walrus_code.specs.declared.items.ItemId.{ItemId}
use Rattle.walrus_code.specs.declared.items.ItemId.TheVariants as items
use Rattle.walrus_code.specs.declared.operator.BlockType.{BlockType as DeclaredBlockType}
use Rattle.walrus_code.specs.declared.operator.BlockType.TheVariants as declared_block
use Rattle.walrus_code.specs.declared.operator.Arg.{Arg as DeclaredArg}
use Rattle.walrus_code.specs.declared.operator.Arg.TheVariants as declared
use Rattle.walrus_code.specs.declared.operator.Args.{Args}
use Rattle.walrus_code.specs.declared.operator.Args.TheVariants.{None as NoArgument, One, Several}
use Rattle.walrus_code.specs.declared.operator.Operator.{Operator}

-- an item by its index space and its place
abbrev pub item_of : ItemId → Item
item_of (items.«Type» id) = (Types, place id)
item_of (items.Function id) = (Functions, place id)
item_of (items.Table id) = (Tables, place id)
item_of (items.Memory id) = (Memories, place id)
item_of (items.Tag id) = (Tags, place id)
item_of (items.Global id) = (Globals, place id)
item_of (items.Element id) = (Elements, place id)
item_of (items.Data id) = (DataSegments, place id)

abbrev pub block_of : DeclaredBlockType → BlockType
block_of declared_block.NoResult = NoResult
block_of (declared_block.OneResult v) = OneResult (val_type v)
block_of (declared_block.OfType id) = OfType (place id)

abbrev pub arg_of : DeclaredArg → Arg
arg_of (declared.Function id) = Index (Functions, place id)
arg_of (declared.«Type» id) = Index (Types, place id)
arg_of (declared.Table id) = Index (Tables, place id)
arg_of (declared.Memory id) = Index (Memories, place id)
arg_of (declared.Global id) = Index (Globals, place id)
arg_of (declared.Tag id) = Index (Tags, place id)
arg_of (declared.Element id) = Index (Elements, place id)
arg_of (declared.Data id) = Index (DataSegments, place id)
arg_of (declared.Local id) = Local (place id)
arg_of (declared.Label n) = Label n
arg_of (declared.Count n) = Count n
arg_of (declared.Number n) = Number n
arg_of (declared.Byte b) = Byte b
arg_of (declared.S32 z) = S32 z
arg_of (declared.S64 z) = S64 z
arg_of (declared.F32 bits) = Bits32 bits
arg_of (declared.F64 bits) = Bits64 bits
arg_of (declared.Value v) = Value (val_type v)
arg_of (declared.Heap h) = Heap (heap_type h)
arg_of (declared.Block b) = Block (block_of b)
arg_of (declared.Access flags memory offset) = Access flags (place memory) offset

abbrev pub args_of : Args → List Arg
args_of NoArgument = []
args_of (One arg) = arg_of arg ∷ []
args_of (Several args) = map arg_of args.items

-- one argument that stands alone
abbrev pub IsOne : Args → Type 0
IsOne NoArgument = ⊥
IsOne (One arg) = Unit {0}
IsOne (Several args) = ⊥

-- the operator without its location
abbrev pub op_of : Operator → Op
op_of operator = record { op = operator.op; args = args_of operator.args }

abbrev pub ops_of : List Operator → List Op
ops_of operators = map op_of operators
