-- Which operators bytes spell: those of the table, with the arguments that it says, each of them a value that is spelled
-- ("Binary Format > Instructions").
use Rattle.std.specs.Prelude.{ℕ, zero, suc, ◌<◌, ◌^◌, Bool, true, false, not, nat_lt, List, [], ◌∷◌, Option, Some, None, if◌then◌else◌}
use Rattle.wasm_forms.specs.Reading.{◌>>=◌}
use Rattle.wasm_forms.specs.Number.{Fits}
use Rattle.wasm_forms.specs.Writing.{EachFits}
use Rattle.wasm_forms.specs.Types.{is_abstract}
use Rattle.wasm_forms.specs.declared.types.RawHeap.{RawHeap}
use Rattle.wasm_forms.specs.declared.types.RawHeap.TheVariants.{Abstract, Index}
use Rattle.wasm_forms.specs.declared.types.RawVal.{RawVal}
use Rattle.wasm_forms.specs.declared.types.RawVal.TheVariants.{I32, I64, F32, F64, V128, Ref}
use Rattle.wasm_operators.specs.declared.kind.Kind.{Kind}
use Rattle.wasm_operators.specs.declared.kind.Kind.TheVariants as kinds
use Rattle.wasm_operators.specs.declared.operator.RawArg.{RawArg}
use Rattle.wasm_operators.specs.declared.operator.RawArg.TheVariants as args
use Rattle.wasm_operators.specs.declared.operator.RawBlock.{RawBlock}
use Rattle.wasm_operators.specs.declared.operator.RawBlock.TheVariants.{NoResult, OneResult, OfType}
use Rattle.wasm_operators.specs.Operators.{Op}
use Rattle.wasm_operators.specs.Table.{kinds_of}
use Rattle.wasm_operators.specs.Forms.{has_memory}

-- ---- one argument

-- an abstract heap type by one of its bytes
abbrev pub heap_spells : RawHeap → Bool
heap_spells (Abstract b) = is_abstract b
heap_spells (Index n) = true

abbrev pub value_spells : RawVal → Bool
value_spells (Ref r) = heap_spells r.heap
value_spells I32 = true
value_spells I64 = true
value_spells F32 = true
value_spells F64 = true
value_spells V128 = true

abbrev pub block_spells : RawBlock → Bool
block_spells (OneResult v) = value_spells v
block_spells NoResult = true
block_spells (OfType t) = true

-- an argument of this kind that is spelled; the flags of an access are without their bit 0x40, which says that a memory follows
abbrev pub is_of : Kind → RawArg → Bool
is_of kinds.Block (args.Block b) = block_spells b
is_of kinds.Label (args.Label l) = true
is_of kinds.Function (args.Function f) = true
is_of kinds.«Type» (args.«Type» t) = true
is_of kinds.Table (args.Table t) = true
is_of kinds.Memory (args.Memory m) = true
is_of kinds.Global (args.Global g) = true
is_of kinds.Tag (args.Tag t) = true
is_of kinds.Element (args.Element s) = true
is_of kinds.Data (args.Data d) = true
is_of kinds.Local (args.Local x) = true
is_of kinds.Access (args.Access flags memory offset) = not (has_memory flags)
is_of kinds.Heap (args.Heap h) = heap_spells h
is_of kinds.Number (args.Number n) = true
is_of kinds.Byte (args.Byte b) = true
is_of kinds.S32 (args.S32 z) = true
is_of kinds.S64 (args.S64 z) = true
is_of kinds.F32 (args.F32 bits) = true
is_of kinds.F64 (args.F64 bits) = true
is_of kind arg = false

-- ---- the arguments behind those of one kind, where such arguments stand in front

abbrev pub behind_one : Kind → List RawArg → Option (List RawArg)
behind_one kind [] = None
behind_one kind (arg ∷ args) = if is_of kind arg then Some args else None

abbrev pub behind_value : List RawArg → Option (List RawArg)
behind_value (args.Value v ∷ args) = if value_spells v then Some args else None
behind_value args = None

-- catch 0x00 and catch_ref 0x01 with a tag and a label, catch_all 0x02 and catch_all_ref 0x03 with a label
abbrev pub behind_catch : List RawArg → Option (List RawArg)
behind_catch (args.Byte b ∷ args) =
    if nat_lt b 2 then (behind_one kinds.Tag args >>= behind_one kinds.Label)
    else if nat_lt b 4 then behind_one kinds.Label args
    else None
behind_catch args = None

-- so many entries
unfoldable pub behind_entries : (List RawArg → Option (List RawArg)) → ℕ → List RawArg → Option (List RawArg)
behind_entries entry zero args = Some args
behind_entries entry (suc n) args = entry args >>= behind_entries entry n

-- a count, and that many entries
abbrev pub behind_counted : (List RawArg → Option (List RawArg)) → List RawArg → Option (List RawArg)
behind_counted entry (args.Count n ∷ args) = behind_entries entry n args
behind_counted entry args = None

abbrev pub behind_kind : Kind → List RawArg → Option (List RawArg)
behind_kind kinds.Nothing args = Some args
behind_kind kinds.Catches args = behind_counted behind_catch args
behind_kind kinds.Labels args = behind_counted (behind_one kinds.Label) args
behind_kind kinds.Values args = behind_counted behind_value args
behind_kind kinds.SixteenBytes args = behind_entries (behind_one kinds.Byte) 16 args
behind_kind kind args = behind_one kind args

abbrev pub behind_kinds : List Kind → List RawArg → Option (List RawArg)
behind_kinds [] args = Some args
behind_kinds (kind ∷ kinds) args = behind_kind kind args >>= behind_kinds kinds

-- ---- operators

abbrev pub is_done : Option (List RawArg) → Bool
is_done None = false
is_done (Some []) = true
is_done (Some (arg ∷ args)) = false

abbrev pub spelled_by : Option (List Kind) → List RawArg → Bool
spelled_by None args = false
spelled_by (Some kinds) args = is_done (behind_kinds kinds args)

unfoldable pub spells : Op → Bool
spells o = spelled_by (kinds_of o.op) o.args

-- ---- ranges: what u32, u64, s32, s64 and bytes hold

abbrev pub HeapHeld : RawHeap → Type 0
HeapHeld (Abstract b) = b < 256
HeapHeld (Index n) = n < 2 ^ 32

abbrev pub ValueHeld : RawVal → Type 0
ValueHeld (Ref r) = HeapHeld r.heap
ValueHeld I32 = Unit {0}
ValueHeld I64 = Unit {0}
ValueHeld F32 = Unit {0}
ValueHeld F64 = Unit {0}
ValueHeld V128 = Unit {0}

abbrev pub BlockHeld : RawBlock → Type 0
BlockHeld NoResult = Unit {0}
BlockHeld (OneResult v) = ValueHeld v
BlockHeld (OfType t) = t < 2 ^ 32

abbrev pub ArgHeld : RawArg → Type 0
ArgHeld (args.Function n) = n < 2 ^ 32
ArgHeld (args.«Type» n) = n < 2 ^ 32
ArgHeld (args.Table n) = n < 2 ^ 32
ArgHeld (args.Memory n) = n < 2 ^ 32
ArgHeld (args.Global n) = n < 2 ^ 32
ArgHeld (args.Tag n) = n < 2 ^ 32
ArgHeld (args.Element n) = n < 2 ^ 32
ArgHeld (args.Data n) = n < 2 ^ 32
ArgHeld (args.Local n) = n < 2 ^ 32
ArgHeld (args.Label n) = n < 2 ^ 32
ArgHeld (args.Count n) = n < 2 ^ 32
ArgHeld (args.Number n) = n < 2 ^ 32
ArgHeld (args.Byte b) = b < 256
ArgHeld (args.S32 z) = Fits (2 ^ 31) z
ArgHeld (args.S64 z) = Fits (2 ^ 63) z
ArgHeld (args.F32 bits) = bits < 2 ^ 32
ArgHeld (args.F64 bits) = bits < 2 ^ 64
ArgHeld (args.Value v) = ValueHeld v
ArgHeld (args.Heap h) = HeapHeld h
ArgHeld (args.Block b) = BlockHeld b
ArgHeld (args.Access flags memory offset) = (flags < 2 ^ 32) × (memory < 2 ^ 32) × (offset < 2 ^ 64)

abbrev pub OpStands : Op → Type 0
OpStands o = EachFits ArgHeld o.args
