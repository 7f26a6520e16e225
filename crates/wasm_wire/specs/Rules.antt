-- The rules on a whole module, beyond its grammar (Validation > Modules, Validation > Types), without operand types.
use Rattle.std.specs.Prelude.{◌≡◌, ◌≢◌, ℕ, ◌-◌, ◌≤◌, ◌^◌, ◌⊎◌, ⊤, Bool, true, false, List, [], ◌∷◌, ◌++◌, map, length, sum, All, AllPairs, Option, Some, None, IsSome, unwrap_or, slice_get, if◌then◌else◌, Result, Ok, Err}
use Rattle.wasm_forms.specs.declared.error.WireError.{WireError}
use Rattle.wasm_forms.specs.declared.error.WireError.TheVariants.{Malformed, Memory, TooLarge}
use Rattle.wasm_forms.specs.declared.types.RawVal.{RawVal}
use Rattle.wasm_forms.specs.declared.types.RawVal.TheVariants as vals
use Rattle.wasm_forms.specs.Grammar.{Form, Is, U32, ◌then◌, Vector}
use Rattle.wasm_forms.specs.Types.{value_type}
use Rattle.wasm_entries.specs.declared.record.RawLimits.{RawLimits}
use Rattle.wasm_entries.specs.declared.record.RawTableType.{RawTableType}
use Rattle.wasm_entries.specs.declared.record.RawGlobalType.{RawGlobalType}
use Rattle.wasm_entries.specs.declared.record.RawConst.{RawConst}
use Rattle.wasm_entries.specs.declared.record.RawConst.TheVariants as ops
use Rattle.wasm_entries.specs.Record.{Comp, Function, Struct, Array, Sub, Expression, Export, ElementMode, ActiveElements, PassiveElements, DeclaredElements, Element, DataMode, ActiveData, PassiveData, Segment}
use Rattle.wasm_frames.specs.Record.{Body, Module}
use Rattle.wasm_frames.specs.Order.{InOrder}
use Rattle.wasm_wire.specs.Context.{Context, context_of, counts_of}
use Rattle.wasm_wire.specs.Indices.{TypesRefer, IndicesHold}

-- ---- functions and tags have function types

abbrev pub IsFunctionComp : Comp → Type 0
IsFunctionComp (Function t) = ⊤
IsFunctionComp (Struct fields) = ⊥
IsFunctionComp (Array field) = ⊥

abbrev pub IsFunction : Option Sub → Type 0
IsFunction None = ⊥
IsFunction (Some s) = IsFunctionComp s.comp

-- these are indices of function types
abbrev pub AreFunctionTypes : List Sub → List ℕ → Type 0
AreFunctionTypes types ts = All (λ t. IsFunction (slice_get types t)) ts

-- ---- limits (Validation > Types > Limits, Memory Types)

abbrev pub IsAtMost : ℕ → Option ℕ → Type 0
IsAtMost n None = ⊤
IsAtMost n (Some most) = n ≤ most

abbrev pub MaximumIsAtMost : Option ℕ → ℕ → Type 0
MaximumIsAtMost None most = ⊤
MaximumIsAtMost (Some n) most = n ≤ most

abbrev pub IsExponent : Option ℕ → Type 0
IsExponent None = ⊤
IsExponent (Some p) = (p ≡ 0) ⊎ (p ≡ 16)

-- the most pages of a memory; a page has 2 ^ 16 bytes where no exponent is given
abbrev pub most_pages : RawLimits → ℕ
most_pages l = 2 ^ ((if l.wide then 64 else 32) - unwrap_or l.page 16)

-- a shared memory has a maximum
abbrev pub HasMaximum : Bool → Option ℕ → Type 0
HasMaximum true maximum = IsSome maximum
HasMaximum false maximum = ⊤

pub record MemoryHolds (l : RawLimits) : Type 0 where
  pub ordered : IsAtMost l.minimum l.maximum
  pub shared : HasMaximum l.shared l.maximum
  pub exponent : IsExponent l.page
  pub minimum : l.minimum ≤ most_pages l
  pub maximum : MaximumIsAtMost l.maximum (most_pages l)

abbrev pub TableLimitsHold : RawTableType → Type 0
TableLimitsHold t = IsAtMost t.limits.minimum t.limits.maximum

-- ---- counts

abbrev pub CountHolds : (segments : ℕ) → Option ℕ → Type 0
CountHolds segments None = ⊤
CountHolds segments (Some n) = n ≡ segments

-- ---- exports and start (Validation > Modules > Exports, Start Function)

abbrev pub NamesDiffer : List Export → Type 0
NamesDiffer es = AllPairs (λ a b. a.name ≢ b.name) es

abbrev pub IsEmptyComp : Comp → Type 0
IsEmptyComp (Function t) = (t.params ≡ []) × (t.results ≡ [])
IsEmptyComp (Struct fields) = ⊥
IsEmptyComp (Array field) = ⊥

abbrev pub IsEmpty : Option Sub → Type 0
IsEmpty None = ⊥
IsEmpty (Some s) = IsEmptyComp s.comp

-- the type of this index takes nothing and gives nothing
abbrev pub IsEmptyType : List Sub → Option ℕ → Type 0
IsEmptyType types None = ⊥
IsEmptyType types (Some t) = IsEmpty (slice_get types t)

-- the start function has neither parameters nor results
abbrev pub StartHolds : List Sub → (functions : List ℕ) → Option ℕ → Type 0
StartHolds types functions None = ⊤
StartHolds types functions (Some f) = IsEmptyType types (slice_get functions f)

-- ---- offsets: of a single plain instruction the kind is checked

-- a constant of addresses of this width, or a global of their type
abbrev pub IsAddress : Bool → RawVal → Type 0
IsAddress true v = v ≡ vals.I64
IsAddress false v = v ≡ vals.I32

abbrev pub GlobalIsAddress : Bool → Option RawGlobalType → Type 0
GlobalIsAddress wide None = ⊥
GlobalIsAddress wide (Some g) = IsAddress wide g.value

abbrev pub SingleHolds : List RawGlobalType → Bool → RawConst → Type 0
SingleHolds globals wide (ops.I32Const z) = wide ≡ false
SingleHolds globals wide (ops.I64Const z) = wide ≡ true
SingleHolds globals wide (ops.F32Const bits) = ⊥
SingleHolds globals wide (ops.F64Const bits) = ⊥
SingleHolds globals wide (ops.V128Const bytes) = ⊥
SingleHolds globals wide (ops.RefNull h) = ⊥
SingleHolds globals wide (ops.RefFunc f) = ⊥
SingleHolds globals wide (ops.GlobalGet g) = GlobalIsAddress wide (slice_get globals g)
SingleHolds globals wide ops.I32Add = ⊤
SingleHolds globals wide ops.I32Sub = ⊤
SingleHolds globals wide ops.I32Mul = ⊤
SingleHolds globals wide ops.I64Add = ⊤
SingleHolds globals wide ops.I64Sub = ⊤
SingleHolds globals wide ops.I64Mul = ⊤
SingleHolds globals wide (ops.StructNew t) = ⊤
SingleHolds globals wide (ops.StructNewDefault t) = ⊤
SingleHolds globals wide (ops.ArrayNew t) = ⊤
SingleHolds globals wide (ops.ArrayNewDefault t) = ⊤
SingleHolds globals wide (ops.ArrayNewFixed t n) = ⊤
SingleHolds globals wide ops.AnyConvertExtern = ⊤
SingleHolds globals wide ops.ExternConvertAny = ⊤
SingleHolds globals wide ops.RefI31 = ⊤

abbrev pub OffsetHolds : List RawGlobalType → Bool → Expression → Type 0
OffsetHolds globals wide [] = ⊤
OffsetHolds globals wide (op ∷ []) = SingleHolds globals wide op
OffsetHolds globals wide (op ∷ next ∷ rest) = ⊤

-- the offset in a table or memory that isn't declared is left to the rule on indices
abbrev pub TableOffsetHolds : List RawGlobalType → Option RawTableType → Expression → Type 0
TableOffsetHolds globals None offset = ⊤
TableOffsetHolds globals (Some t) offset = OffsetHolds globals t.limits.wide offset

abbrev pub ElementModeOffsetHolds : List RawTableType → List RawGlobalType → ElementMode → Type 0
ElementModeOffsetHolds tables globals (ActiveElements table offset) = TableOffsetHolds globals (slice_get tables (unwrap_or table 0)) offset
ElementModeOffsetHolds tables globals PassiveElements = ⊤
ElementModeOffsetHolds tables globals DeclaredElements = ⊤

abbrev pub ElementOffsetHolds : List RawTableType → List RawGlobalType → Element → Type 0
ElementOffsetHolds tables globals e = ElementModeOffsetHolds tables globals e.mode

abbrev pub MemoryOffsetHolds : List RawGlobalType → Option RawLimits → Expression → Type 0
MemoryOffsetHolds globals None offset = ⊤
MemoryOffsetHolds globals (Some l) offset = OffsetHolds globals l.wide offset

abbrev pub DataModeOffsetHolds : List RawLimits → List RawGlobalType → DataMode → Type 0
DataModeOffsetHolds memories globals (ActiveData memory offset) = MemoryOffsetHolds globals (slice_get memories memory) offset
DataModeOffsetHolds memories globals PassiveData = ⊤

abbrev pub DataOffsetHolds : List RawLimits → List RawGlobalType → Segment → Type 0
DataOffsetHolds memories globals d = DataModeOffsetHolds memories globals d.mode

-- ---- declared locals: where they can be read, at most 50,000 (Binary Format > Modules > Code Section)

-- so many locals of one type, any number of times
abbrev pub declarations : Form (List (ℕ × RawVal))
declarations = Vector (U32 then value_type)

abbrev pub LocalsHold : Body → Type 0
LocalsHold b = (front back : List ℕ) (locals : List (ℕ × RawVal)) → b.bytes ≡ front ++ back → Is declarations front locals → sum (map (λ l. l.0) locals) ≤ 50_000

-- ---- all of them

-- the module keeps the rules where this is declared
pub record Keeps (c : Context) (m : Module) : Type 0 where
  pub in_order : InOrder m.order
  pub types : TypesRefer m.types
  pub indices : IndicesHold (counts_of c) m
  pub function_types : AreFunctionTypes c.types c.functions
  pub tag_types : AreFunctionTypes c.types c.tags
  pub tables : All TableLimitsHold c.tables
  pub memories : All MemoryHolds c.memories
  pub as_many_bodies : length m.bodies ≡ length m.functions
  pub data_count : CountHolds (length m.data_segments) m.data_count
  pub names_differ : NamesDiffer m.exports
  pub start : StartHolds c.types c.functions m.start
  pub element_offsets : All (ElementOffsetHolds c.tables c.globals) m.elements
  pub data_offsets : All (DataOffsetHolds c.memories c.globals) m.data_segments
  pub locals : All LocalsHold m.bodies

abbrev pub Rules : Module → Type 0
Rules m = Keeps (context_of m) m

-- what a check answered: it passes exactly where the fact holds, unless memory ran out
abbrev pub Checks : Result Unit WireError → Type 0 → Type 0
Checks (Ok u) P = P
Checks (Err Malformed) P = P → ⊥
Checks (Err (Memory e)) P = ⊤
Checks (Err TooLarge) P = ⊥
