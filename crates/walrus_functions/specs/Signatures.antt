-- For the functions that find the types of handlers.
use Rattle.std.specs.Borrow.{Bor}
use Rattle.wasm_opcodes.specs.declared.one_byte.TheConstants.{TRY, CATCH, CATCH_ALL}
use Rattle.std.specs.Prelude.{◌≡◌, ℕ, List, [], ◌∷◌, map, option_map, option_and_then, Option, Some, None, reverse, slice_get, take, ◌==◌, if◌then◌else◌}
use Rattle.walrus_base.specs.Arena.{item_at}
use Rattle.walrus_base.specs.Id.{place}
use Rattle.walrus_base.specs.Types.{ValType}
use Rattle.walrus_base.specs.declared.id.Id.{Id}
use Rattle.walrus_base.specs.declared.keys.TypeKey.{TypeKey}
use Rattle.walrus_base.specs.Composite.{FunctionType, function_type}
use Rattle.walrus_base.specs.ModuleTypes.{type_slots, type_names}
use Rattle.walrus_base.specs.Operators.{BlockType, NoResult, OneResult, OfType, Arg, Index, Label, Local, Number, Count, Byte, S32, S64, Bits32, Bits64, Value, Heap, Block, Access, Op}
use Rattle.walrus_base.specs.TypeDef.{TypeDef}
use Rattle.walrus_base.specs.Value.{val_type}
use Rattle.walrus_base.specs.declared.composite.FunctionType.{FunctionType as DeclaredFunctionType}
use Rattle.walrus_base.specs.declared.module_types.ModuleTypes.{ModuleTypes}
use Rattle.walrus_code.specs.Code.{block_of}
use Rattle.walrus_functions.specs.Handlers.{OpenBlock, Try, OtherBlock, opens_other, closes, block_results, catch_type, handler_at, params_of, results_of, tag_params}
use Rattle.walrus_functions.specs.ReadFunction.{Slots}
use Rattle.walrus_functions.specs.declared.blocks.Opened.{Opened}
use Rattle.walrus_functions.specs.declared.blocks.Opened.TheVariants as declared
use Rattle.walrus_functions.specs.declared.blocks.OpenBlocks.{OpenBlocks}
use Rattle.walrus_functions.specs.declared.signatures.Signatures.{Signatures}
use Rattle.walrus_functions.specs.declared.tag_and_try.TagAndTry.{TagAndTry}
use Rattle.walrus_functions.specs.declared.tag_and_try.TryType.{TryType}
use Rattle.walrus_functions.specs.declared.tag_and_try.TryType.TheVariants as declared_try

abbrev pub slots_of : ModuleTypes → Slots
slots_of types = record { types = type_slots types; names = type_names types }

-- the types at the places below a bound
abbrev pub types_below : ℕ → List (Option TypeDef) → ℕ → Option TypeDef
types_below bound slots p = item_at (take bound slots) p

-- the place of the type of a tag, by the tag's place
abbrev pub tag_places : List (Id TypeKey) → ℕ → Option ℕ
tag_places ids tag = option_map place (slice_get ids tag)

abbrev pub types_in : Signatures → ℕ → Option TypeDef
types_in s = types_below s.bound (type_slots s.types.now)

-- the function type that a type is, and none where it is none
abbrev pub IsFunctionOf : Option TypeDef → Option (Bor DeclaredFunctionType) → Type 0
IsFunctionOf def (Some f) = (params_of def ≡ (function_type f.now).params) × (results_of def ≡ (function_type f.now).results)
IsFunctionOf def None = (params_of def ≡ []) × (results_of def ≡ [])

-- the number of an item that an argument names by its index alone
abbrev pub arg_place : Arg → Option ℕ
arg_place (Index x) = Some x.1
arg_place (Label n) = None
arg_place (Local n) = None
arg_place (Number n) = None
arg_place (Count n) = None
arg_place (Byte n) = None
arg_place (S32 z) = None
arg_place (S64 z) = None
arg_place (Bits32 n) = None
arg_place (Bits64 n) = None
arg_place (Value v) = None
arg_place (Heap h) = None
arg_place (Block b) = None
arg_place (Access flags memory offset) = None

-- that of the first one
abbrev pub first_place : List Arg → Option ℕ
first_place [] = None
first_place (arg ∷ args) = arg_place arg

-- ---- what the types of handlers are made of: the type of a tag, if there is one, and that of a try

abbrev pub try_block : TryType → BlockType
try_block declared_try.NoResult = NoResult
try_block (declared_try.OneResult v) = OneResult (val_type v)
try_block (declared_try.OfType id) = OfType (place id)

abbrev pub pair_of : TagAndTry → Option ℕ × BlockType
pair_of handler = (option_map place handler.tag_type, try_block handler.try_type)

-- that of the handler that an operator begins directly in such a block, if it begins one
abbrev pub pair_in : (tags : ℕ → Option ℕ) → Option BlockType → Op → Option (Option ℕ × BlockType)
pair_in tags None o = None
pair_in tags (Some b) o =
    if o.op == CATCH then Some (option_and_then tags (first_place o.args), b)
    else (if o.op == CATCH_ALL then Some (None, b)
    else None)

abbrev pub no_tags : ℕ → Option ℕ
no_tags tag = None

module _ (types : ℕ → Option TypeDef) where
  -- what a handler takes whose tag has this type, and what the block gives back that it stands in
  abbrev pub taken_by : Option ℕ → List (ValType ℕ)
  taken_by tag_type = tag_params types no_tags tag_type

  abbrev pub given_by : BlockType → List (ValType ℕ)
  given_by block = block_results types no_tags block

  -- the type that such a handler needs, if it needs one
  abbrev pub pair_type : Option ℕ × BlockType → List FunctionType
  pair_type pair = catch_type (taken_by pair.0) (given_by pair.1)

  abbrev pub needed_by : Option (Option ℕ × BlockType) → List FunctionType
  needed_by None = []
  needed_by (Some pair) = pair_type pair

-- ---- open blocks: the type of a try, or none for another block

abbrev pub try_type : Opened → Option BlockType
try_type (declared.Try b) = Some (block_of b)
try_type declared.Other = None

-- the innermost block first
abbrev pub opened : OpenBlocks → List (Option BlockType)
opened blocks = map try_type (reverse blocks.blocks.items)

-- the type of the block that an operator opens
abbrev pub opened_type : List Arg → BlockType
opened_type (Block b ∷ args) = b
opened_type args = NoResult

-- what the innermost block is
abbrev pub first_opened : List (Option BlockType) → Option BlockType
first_opened [] = None
first_opened (b ∷ around) = b

abbrev pub without_first : List (Option BlockType) → List (Option BlockType)
without_first [] = []
without_first (b ∷ around) = around

abbrev pub opened_after : List (Option BlockType) → Op → List (Option BlockType)
opened_after blocks o =
    if o.op == TRY then Some (opened_type o.args) ∷ blocks
    else (if opens_other o.op then None ∷ blocks
    else (if closes o.op then without_first blocks
    else blocks))

module _ (types : ℕ → Option TypeDef) (tags : ℕ → Option ℕ) where
  -- a try with its results
  abbrev pub with_results : Option BlockType → OpenBlock
  with_results (Some b) = Try (block_results types tags b)
  with_results None = OtherBlock

  -- the type that an operator needs directly in such a block, if it needs one
  abbrev pub handler_in : Option BlockType → Op → List FunctionType
  handler_in block o = handler_at types tags (with_results block ∷ []) o
