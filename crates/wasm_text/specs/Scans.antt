-- What a scan finds at a place: arguments and operators, with their marks.
use Rattle.std.specs.Prelude.{◌≡◌, ℕ, ◌+◌, ◌*◌, ◌-◌, ◌<◌, ◌≤◌, true, List, [], ◌∷◌, ◌++◌, length, map, drop, flat_map, nat_eq, ◌⊎◌, false, ◌^◌, Vec, vec_len, vec_capacity}
use Rattle.std.specs.declared.alloc.Global.{Global}
use Rattle.wasm_forms.specs.Grammar.{Form, Is, Made, Where, Row, U32}
use Rattle.wasm_forms.specs.Spelling.{row_bytes}
use Rattle.wasm_forms.specs.Writing.{EachFits}
use Rattle.wasm_operators.specs.declared.operator.RawArg.{RawArg}
use Rattle.wasm_operators.specs.declared.operator.RawArg.TheVariants as args
use Rattle.wasm_operators.specs.declared.operator.RawBlock.{RawBlock}
use Rattle.wasm_operators.specs.declared.operator.RawBlock.TheVariants.{NoResult, OneResult, OfType}
use Rattle.wasm_operators.specs.declared.kind.Kind.{Kind}
use Rattle.wasm_operators.specs.Operators.{Op}
use Rattle.wasm_operators.specs.Spelling.{arg_bytes}
use Rattle.wasm_text.specs.declared.limits.Limits.{Limits}
use Rattle.wasm_text.specs.Places.{between, Stands, IfPlace, IsShortest}
use Rattle.wasm_text.specs.Marks.{shifted, value_names, heap_names, Shows, HoldsOne}
use Rattle.wasm_opcodes.specs.Prefixed.{opcode_behind}
use Rattle.wasm_opcodes.specs.declared.one_byte.TheConstants.{PREFIX_FC}
use Rattle.wasm_operators.specs.Forms.{args_form}
use Rattle.wasm_text.specs.declared.class.Class.{Class}
use Rattle.wasm_text.specs.declared.class.Class.TheVariants as class
use Rattle.wasm_text.specs.declared.places.TheConstants.{NO_PLACE}
use Rattle.wasm_text.specs.Classes.{is_plain, HasKinds, class_kinds}

-- ---- limits

abbrev pub BlockWithin : Limits → RawBlock → Type 0
BlockWithin limits NoResult = Unit {0}
BlockWithin limits (OneResult v) = value_names v ≡ false
BlockWithin limits (OfType t) = t < limits.types

-- each index is below its count, and no tag, segment, or heap type with an index
abbrev pub IsWithin : Limits → RawArg → Type 0
IsWithin limits (args.Function n) = n < limits.functions
IsWithin limits (args.«Type» n) = n < limits.types
IsWithin limits (args.Table n) = n < limits.tables
IsWithin limits (args.Memory n) = n < limits.memories
IsWithin limits (args.Global n) = n < limits.globals
IsWithin limits (args.Tag n) = ⊥
IsWithin limits (args.Element n) = ⊥
IsWithin limits (args.Data n) = ⊥
IsWithin limits (args.Local n) = n < limits.locals
IsWithin limits (args.Label n) = n < limits.labels
IsWithin limits (args.Count n) = Unit {0}
IsWithin limits (args.Number n) = Unit {0}
IsWithin limits (args.Byte b) = Unit {0}
IsWithin limits (args.S32 z) = Unit {0}
IsWithin limits (args.S64 z) = Unit {0}
IsWithin limits (args.F32 bits) = Unit {0}
IsWithin limits (args.F64 bits) = Unit {0}
IsWithin limits (args.Value v) = value_names v ≡ false
IsWithin limits (args.Heap h) = heap_names h ≡ false
IsWithin limits (args.Block b) = BlockWithin limits b
IsWithin limits (args.Access flags memory offset) = memory < limits.memories

-- ---- marks

-- the mark of what stands at a place
abbrev pub mark_at : (at kind : ℕ) → ℕ
mark_at at kind = 16 * at + kind

-- a place that was answered is this one, and a mark was put behind the others
abbrev pub IsMarked : (at kind behind : ℕ) → (old new : List ℕ) → ℕ → Type 0
IsMarked at kind behind old new place = (place ≡ behind) × (new ≡ old ++ mark_at at kind ∷ [])

-- a place that was answered is this one, and a mark was put behind the others, unless the argument stands in its one spelling
abbrev pub IsMarkedIfPadded : (bytes : List ℕ) → (at kind behind : ℕ) → (old new : List ℕ) → ℕ → Type 0
IsMarkedIfPadded bytes at kind behind old new place =
    (place ≡ behind) × ((IsShortest (between at behind bytes) × (new ≡ old)) ⊎ (new ≡ old ++ mark_at at kind ∷ []))

-- there is room for a mark of each byte from a place on and for one more, and a mark holds each of these places
abbrev pub HasRoom : Vec ℕ Global → List ℕ → (at : ℕ) → Type 0
HasRoom marks bytes at = (at ≤ length bytes) × (length bytes < 2 ^ 28) × (vec_len marks + (length bytes - at) < vec_capacity marks)

-- ---- arguments

-- a count, and so many labels
abbrev pub count_form : ℕ → Form (List RawArg)
count_form n = Made (λ k. args.Count k ∷ []) (Where (λ k. nat_eq k n) U32)

abbrev pub labels_form : ℕ → Form (List RawArg)
labels_form n = Made (flat_map (λ l. args.Label l ∷ [])) (Row U32 n)

-- an index below a count, with its mark
pub record IsIndexed (below kind : ℕ) (bytes : List ℕ) (at behind : ℕ) (old new : List ℕ) : Type 0 where
  pub number : ℕ
  pub stands : Stands U32 bytes at behind number
  pub small : number < below
  pub put : new ≡ old ++ mark_at at kind ∷ []

-- arguments of this form, with their marks
pub record HasArgs (form : Form (List RawArg)) (limits : Limits) (bytes : List ℕ) (at behind : ℕ) (old new : List ℕ) : Type 0 where
  pub args : List RawArg
  pub marks : List ℕ
  pub is : Is form (between at behind bytes) args
  pub shown : Shows (between at behind bytes) marks args (λ f. row_bytes arg_bytes (map f args))
  pub put : new ≡ old ++ map (shifted at) marks
  pub fit : EachFits (IsWithin limits) args
  pub forward : at ≤ behind
  pub within : behind ≤ length bytes

abbrev pub ScansArgs : Form (List RawArg) → Limits → List ℕ → (at : ℕ) → (old new : List ℕ) → ℕ → Type 0
ScansArgs form limits bytes at old new behind = IfPlace behind (HasArgs form limits bytes at behind old new)

-- arguments of these kinds
abbrev pub Scans : List Kind → Limits → List ℕ → (at : ℕ) → (old new : List ℕ) → ℕ → Type 0
Scans listed limits bytes at old new behind = ScansArgs (args_form listed) limits bytes at old new behind

-- ---- operators

-- the one byte of a number behind the byte FC, and the arguments of the operator that the number leads to
pub record HasPrefixed (limits : Limits) (bytes : List ℕ) (at behind : ℕ) (old new : List ℕ) : Type 0 where
  pub number : ℕ
  pub listed : List Kind
  pub first : drop at bytes ≡ number ∷ drop (at + 1) bytes
  pub small : number < 128
  pub has : HasKinds (opcode_behind PREFIX_FC number) listed
  pub args : HasArgs (args_form listed) limits bytes (at + 1) behind old new

-- what a class says of the bytes behind the first one; classes that open or close a block aren't scanned
abbrev pub ScansClass : Class → Limits → List ℕ → (at : ℕ) → (old new : List ℕ) → ℕ → Type 0
ScansClass class.Other limits bytes at old new behind = behind ≡ NO_PLACE
ScansClass class.Block limits bytes at old new behind = behind ≡ NO_PLACE
ScansClass class.Else limits bytes at old new behind = behind ≡ NO_PLACE
ScansClass class.End limits bytes at old new behind = behind ≡ NO_PLACE
ScansClass class.Prefix limits bytes at old new behind = IfPlace behind (HasPrefixed limits bytes at behind old new)
ScansClass c limits bytes at old new behind = ScansArgs (args_form (class_kinds c)) limits bytes at old new behind

-- an operator of this number begins with this number as its byte, or, where the number is larger, with the byte FC
abbrev pub Begins : List ℕ → (at op : ℕ) → Type 0
Begins bytes at op = (drop at bytes ≡ op ∷ drop (at + 1) bytes) ⊎ ((drop at bytes ≡ PREFIX_FC ∷ drop (at + 1) bytes) × (65536 ≤ op))

-- a plain operator, with its marks
pub record HasOperator (limits : Limits) (bytes : List ℕ) (at behind : ℕ) (old new : List ℕ) : Type 0 where
  pub text : Op
  pub marks : List ℕ
  pub holds : HoldsOne (between at behind bytes) marks text
  pub put : new ≡ old ++ map (shifted at) marks
  pub fit : EachFits (IsWithin limits) text.args
  pub plain : is_plain text.op ≡ true
  pub begins : Begins bytes at text.op
  pub forward : at < behind
  pub within : behind ≤ length bytes
