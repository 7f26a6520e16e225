-- Bytes in which what arguments name has new numbers.
use Rattle.std.specs.Prelude.{◌≡◌, ℕ, ◌<◌, ◌≤◌, ◌-◌, ◌^◌, Bool, true, false, List, [], ◌∷◌, ◌++◌, length, Option, Some, None, option_map, Result, Ok, Err, ◌⊎◌}
use Rattle.wasm_forms.specs.Writing.{EachFits}
use Rattle.wasm_forms.specs.declared.types.RawHeap.{RawHeap}
use Rattle.wasm_forms.specs.declared.types.RawHeap.TheVariants.{Abstract, Index}
use Rattle.wasm_forms.specs.declared.types.RawVal.{RawVal}
use Rattle.wasm_forms.specs.declared.types.RawVal.TheVariants.{I32, I64, F32, F64, V128, Ref}
use Rattle.wasm_operators.specs.declared.operator.RawArg.{RawArg}
use Rattle.wasm_operators.specs.declared.operator.RawArg.TheVariants as args
use Rattle.wasm_operators.specs.declared.operator.RawBlock.{RawBlock}
use Rattle.wasm_operators.specs.declared.operator.RawBlock.TheVariants.{NoResult, OneResult, OfType}
use Rattle.wasm_operators.specs.Spelling.{arg_bytes}
use Rattle.wasm_operators.specs.Standing.{ArgHeld}
use Rattle.wasm_text.specs.declared.mark.TheConstants.{MARK_LOCAL, MARK_FUNCTION, MARK_GLOBAL, MARK_TYPE, MARK_TABLE, MARK_MEMORY}
use Rattle.wasm_text.specs.declared.renumbering.TheConstants.{NO_NUMBER}
use Rattle.wasm_text.specs.declared.places.TheConstants.{NO_PLACE}
use Rattle.wasm_text.specs.Places.{between, Stands}
use Rattle.wasm_text.specs.Marks.{place_of, kind_of, form_of, found, fill, args_at}

-- ---- new numbers

-- the number that was answered for an index that has this new number, or none
abbrev pub Answers : ℕ → Option ℕ → Type 0
Answers result None = result ≡ NO_NUMBER
Answers result (Some n) = (result ≡ n) × (n < 2 ^ 32)

-- by the kind of a mark and an index: its new number
abbrev pub Numbering : Type 0
Numbering = ℕ → ℕ → Option ℕ

abbrev pub renamed_heap : Numbering → RawHeap → Option RawHeap
renamed_heap number (Abstract b) = Some (Abstract b)
renamed_heap number (Index n) = option_map Index (number MARK_TYPE n)

abbrev pub renamed_value : Numbering → RawVal → Option RawVal
renamed_value number (Ref r) = option_map (λ heap. Ref (record { nullable = r.nullable; heap = heap })) (renamed_heap number r.heap)
renamed_value number I32 = Some I32
renamed_value number I64 = Some I64
renamed_value number F32 = Some F32
renamed_value number F64 = Some F64
renamed_value number V128 = Some V128

abbrev pub renamed_block : Numbering → RawBlock → Option RawBlock
renamed_block number NoResult = Some NoResult
renamed_block number (OneResult v) = option_map OneResult (renamed_value number v)
renamed_block number (OfType t) = option_map OfType (number MARK_TYPE t)

-- an argument with the new number of what it names; tags and segments have none
abbrev pub renamed : Numbering → RawArg → Option RawArg
renamed number (args.Function n) = option_map args.Function (number MARK_FUNCTION n)
renamed number (args.«Type» n) = option_map args.«Type» (number MARK_TYPE n)
renamed number (args.Table n) = option_map args.Table (number MARK_TABLE n)
renamed number (args.Memory n) = option_map args.Memory (number MARK_MEMORY n)
renamed number (args.Global n) = option_map args.Global (number MARK_GLOBAL n)
renamed number (args.Tag n) = None
renamed number (args.Element n) = None
renamed number (args.Data n) = None
renamed number (args.Local n) = option_map args.Local (number MARK_LOCAL n)
renamed number (args.Label n) = Some (args.Label n)
renamed number (args.Count n) = Some (args.Count n)
renamed number (args.Number n) = Some (args.Number n)
renamed number (args.Byte b) = Some (args.Byte b)
renamed number (args.S32 z) = Some (args.S32 z)
renamed number (args.S64 z) = Some (args.S64 z)
renamed number (args.F32 bits) = Some (args.F32 bits)
renamed number (args.F64 bits) = Some (args.F64 bits)
renamed number (args.Value v) = option_map args.Value (renamed_value number v)
renamed number (args.Heap h) = option_map args.Heap (renamed_heap number h)
renamed number (args.Block b) = option_map args.Block (renamed_block number b)
renamed number (args.Access flags memory offset) = option_map (λ n. args.Access flags n offset) (number MARK_MEMORY memory)

abbrev pub or_same : RawArg → Option RawArg → RawArg
or_same arg None = arg
or_same arg (Some new) = new

-- the same, and the argument itself where it has none
abbrev pub anew : Numbering → RawArg → RawArg
anew number arg = or_same arg (renamed number arg)

-- it has a new number, or names nothing; with this number it is in its range where it was
abbrev pub HasNumber : Numbering → RawArg → Type 0
HasNumber number arg = (new : RawArg) × ((renamed number arg ≡ Some new) × (ArgHeld arg → ArgHeld new))

-- one of these has no new number
abbrev pub SomeLacks : Numbering → List RawArg → Type 0
SomeLacks number [] = ⊥
SomeLacks number (arg ∷ more) = (renamed number arg ≡ None) ⊎ SomeLacks number more

-- ---- what is appended

-- all have a new number, and the bytes with these stand behind what was there; or one has none
abbrev pub Fills : {E : Type 0} → Numbering → (bytes marks old new : List ℕ) → Result Bool E → Type 0
Fills number bytes marks old new (Ok true) = EachFits (HasNumber number) (args_at bytes marks) × (new ≡ old ++ fill (anew number) bytes 0 marks)
Fills number bytes marks old new (Ok false) = SomeLacks number (args_at bytes marks)
Fills number bytes marks old new (Err e) = Unit {0}

-- what stands at a mark is an argument without a new number
pub record Lacks (number : Numbering) (bytes : List ℕ) (mark : ℕ) : Type 0 where
  pub arg : RawArg
  pub rest : List ℕ
  pub here : found bytes mark ≡ Some (arg, rest)
  pub lacks : renamed number arg ≡ None

-- what stands up to the argument at a mark was appended, and the argument with its new number; a part of this may be left to be copied, from a
-- place on up to the argument's end
pub record Puts (number : Numbering) (bytes : List ℕ) (run mark next : ℕ) (old new : List ℕ) : Type 0 where
  pub arg : RawArg
  pub rest : List ℕ
  pub renewed : RawArg
  pub here : found bytes mark ≡ Some (arg, rest)
  pub has : renamed number arg ≡ Some renewed
  pub holds : ArgHeld arg → ArgHeld renewed
  pub back : next ≤ length bytes - length rest
  pub same : new ++ between next (length bytes - length rest) bytes ≡ old ++ between run (place_of mark) bytes ++ arg_bytes renewed

abbrev pub Steps : Numbering → (bytes : List ℕ) → (run mark : ℕ) → (old new : List ℕ) → ℕ → Type 0
Steps number bytes run mark old new next = ((next ≡ NO_PLACE) × Lacks number bytes mark) ⊎ Puts number bytes run mark next old new

-- what stands at a mark is the one spelling of an argument that keeps its number
pub record Stays (number : Numbering) (bytes : List ℕ) (mark : ℕ) : Type 0 where
  pub arg : RawArg
  pub behind : ℕ
  pub stands : Stands (form_of (kind_of mark)) bytes (place_of mark) behind arg
  pub has : renamed number arg ≡ Some arg
  pub spelled : arg_bytes arg ≡ between (place_of mark) behind bytes

abbrev pub IfStays : Numbering → (bytes : List ℕ) → (mark : ℕ) → Bool → Type 0
IfStays number bytes mark true = Stays number bytes mark
IfStays number bytes mark false = Unit {0}
