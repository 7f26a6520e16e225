-- Bytes with marks: where arguments stand that aren't copied as they are, and the bytes with other arguments in their place.
use Rattle.std.specs.Prelude.{◌≡◌, ℕ, ◌+◌, ◌*◌, ◌-◌, ◌/◌, ◌%◌, ◌≤◌, Bool, true, false, List, [], ◌∷◌, ◌++◌, length, drop, map, filter, flat_map, Option, Some, None, nat_eq}
use Rattle.wasm_forms.specs.Grammar.{Form, Fails, Made, Is, IsRow, U32, S32, S64, at, choose}
use Rattle.wasm_forms.specs.Spelling.{row_bytes}
use Rattle.wasm_forms.specs.declared.types.RawHeap.{RawHeap}
use Rattle.wasm_forms.specs.declared.types.RawHeap.TheVariants.{Abstract, Index}
use Rattle.wasm_forms.specs.declared.types.RawVal.{RawVal}
use Rattle.wasm_forms.specs.declared.types.RawVal.TheVariants.{I32, I64, F32, F64, V128, Ref}
use Rattle.wasm_operators.specs.declared.operator.RawArg.{RawArg}
use Rattle.wasm_operators.specs.declared.operator.RawArg.TheVariants as args
use Rattle.wasm_operators.specs.declared.operator.RawBlock.{RawBlock}
use Rattle.wasm_operators.specs.declared.operator.RawBlock.TheVariants.{NoResult, OneResult, OfType}
use Rattle.wasm_operators.specs.Operators.{Op}
use Rattle.wasm_operators.specs.Forms.{access, block_type, operator}
use Rattle.wasm_operators.specs.Spelling.{arg_bytes, op_bytes}
use Rattle.wasm_text.specs.declared.mark.TheConstants.{MARK_LOCAL, MARK_FUNCTION, MARK_GLOBAL, MARK_TYPE, MARK_TABLE, MARK_MEMORY, MARK_ACCESS, MARK_NUMBER, MARK_S32, MARK_S64, MARK_BLOCK}
use Rattle.wasm_text.specs.Places.{between, Stands}

-- ---- a mark

abbrev pub place_of : ℕ → ℕ
place_of mark = mark / 16

abbrev pub kind_of : ℕ → ℕ
kind_of mark = mark % 16

-- the same argument, so many bytes further on
abbrev pub shifted : ℕ → ℕ → ℕ
shifted by mark = 16 * by + mark

-- what stands at a mark of this kind
unfoldable pub form_of : ℕ → Form RawArg
form_of kind =
    choose (nat_eq kind MARK_LOCAL) (Made args.Local U32)
    (choose (nat_eq kind MARK_FUNCTION) (Made args.Function U32)
    (choose (nat_eq kind MARK_GLOBAL) (Made args.Global U32)
    (choose (nat_eq kind MARK_TYPE) (Made args.«Type» U32)
    (choose (nat_eq kind MARK_TABLE) (Made args.Table U32)
    (choose (nat_eq kind MARK_MEMORY) (Made args.Memory U32)
    (choose (nat_eq kind MARK_ACCESS) access
    (choose (nat_eq kind MARK_NUMBER) (Made args.Number U32)
    (choose (nat_eq kind MARK_S32) (Made args.S32 S32)
    (choose (nat_eq kind MARK_S64) (Made args.S64 S64)
    (choose (nat_eq kind MARK_BLOCK) (Made args.Block block_type)
    Fails))))))))))

-- ---- the bytes with other arguments

-- the argument at a mark, and the bytes behind it
abbrev pub found : List ℕ → ℕ → Option (RawArg × List ℕ)
found bytes mark = at (form_of (kind_of mark)) (drop (place_of mark) bytes)

abbrev pub spelled : (RawArg → RawArg) → Option (RawArg × List ℕ) → List ℕ
spelled f None = []
spelled f (Some x) = arg_bytes (f x.0)

-- the place behind it
abbrev pub end_of : List ℕ → Option (RawArg × List ℕ) → ℕ
end_of bytes None = length bytes
end_of bytes (Some x) = length bytes - length x.1

-- the bytes from a place on, where in place of each argument at a mark what f gives for it stands in its one spelling
abbrev pub fill : (RawArg → RawArg) → List ℕ → ℕ → List ℕ → List ℕ
fill f bytes from [] = drop from bytes
fill f bytes from (mark ∷ marks) = between from (place_of mark) bytes ++ spelled f (found bytes mark) ++ fill f bytes (end_of bytes (found bytes mark)) marks

-- ---- which arguments are marked

-- from a place on, an argument stands at each mark, one behind another
abbrev pub AreInOrder : List ℕ → ℕ → List ℕ → Type 0
AreInOrder bytes from [] = from ≤ length bytes
AreInOrder bytes from (mark ∷ marks) =
    (from ≤ place_of mark) × ((arg : RawArg) × ((behind : ℕ) × (Stands (form_of (kind_of mark)) bytes (place_of mark) behind arg × AreInOrder bytes behind marks)))

-- an argument of its kind stands at a mark
abbrev pub HasArgument : List ℕ → (mark : ℕ) → Type 0
HasArgument bytes mark = (arg : RawArg) × ((behind : ℕ) × Stands (form_of (kind_of mark)) bytes (place_of mark) behind arg)

-- whether some mark's kind is that of such an argument
abbrev pub is_marked : RawArg → Bool
is_marked (args.Function n) = true
is_marked (args.«Type» n) = true
is_marked (args.Table n) = true
is_marked (args.Memory n) = true
is_marked (args.Global n) = true
is_marked (args.Local n) = true
is_marked (args.Number n) = true
is_marked (args.S32 z) = true
is_marked (args.S64 z) = true
is_marked (args.Block b) = true
is_marked (args.Access flags memory offset) = true
is_marked arg = false

abbrev pub argument : Option (RawArg × List ℕ) → List RawArg
argument None = []
argument (Some x) = x.0 ∷ []

abbrev pub args_at : List ℕ → List ℕ → List RawArg
args_at bytes marks = flat_map (λ mark. argument (found bytes mark)) marks

-- whether it holds an index of the module or of a local
abbrev pub heap_names : RawHeap → Bool
heap_names (Abstract b) = false
heap_names (Index n) = true

abbrev pub value_names : RawVal → Bool
value_names (Ref r) = heap_names r.heap
value_names I32 = false
value_names I64 = false
value_names F32 = false
value_names F64 = false
value_names V128 = false

abbrev pub block_names : RawBlock → Bool
block_names NoResult = false
block_names (OneResult v) = value_names v
block_names (OfType t) = true

abbrev pub arg_names : RawArg → Bool
arg_names (args.Function n) = true
arg_names (args.«Type» n) = true
arg_names (args.Table n) = true
arg_names (args.Memory n) = true
arg_names (args.Global n) = true
arg_names (args.Tag n) = true
arg_names (args.Element n) = true
arg_names (args.Data n) = true
arg_names (args.Local n) = true
arg_names (args.Label n) = false
arg_names (args.Count n) = false
arg_names (args.Number n) = false
arg_names (args.Byte b) = false
arg_names (args.S32 z) = false
arg_names (args.S64 z) = false
arg_names (args.F32 bits) = false
arg_names (args.F64 bits) = false
arg_names (args.Value v) = value_names v
arg_names (args.Heap h) = heap_names h
arg_names (args.Block b) = block_names b
arg_names (args.Access flags memory offset) = true

abbrev pub naming : List RawArg → List RawArg
naming args = filter arg_names args

-- it leaves what names nothing
abbrev pub Leaves : (RawArg → RawArg) → Type 0
Leaves f = (arg : RawArg) → arg_names arg ≡ false → f arg ≡ arg

-- the marks show each of these arguments that names something, and `spell f` is what the bytes become where f is put in
pub record Shows (bytes marks : List ℕ) (args : List RawArg) (spell : (RawArg → RawArg) → List ℕ) : Type 0 where
  pub ordered : AreInOrder bytes 0 marks
  pub becomes : (f : RawArg → RawArg) → Leaves f → spell f ≡ fill f bytes 0 marks
  pub named : naming args ≡ naming (args_at bytes marks)

-- ---- operators

abbrev pub with : (RawArg → RawArg) → Op → Op
with f o = record { op = o.op; args = map f o.args }

abbrev pub all_args : List Op → List RawArg
all_args texts = flat_map (λ o. o.args) texts

-- the bytes are these operators, and the marks show their arguments
pub record Holds (bytes marks : List ℕ) (texts : List Op) : Type 0 where
  pub row : IsRow (Is operator) bytes texts
  pub shown : Shows bytes marks (all_args texts) (λ f. row_bytes op_bytes (map (with f) texts))

-- the bytes are this operator, and the marks show its arguments
pub record HoldsOne (bytes marks : List ℕ) (text : Op) : Type 0 where
  pub is : Is operator bytes text
  pub shown : Shows bytes marks text.args (λ f. op_bytes (with f text))
