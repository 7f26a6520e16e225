-- What the functions promise that write a module and tell of it: of the parts of the input, and of a module in memory.
use Rattle.std.specs.Prelude.{ℕ, Bool, List, Option, Result, Ok, Err, MatchResult, is_some, sum_by, if◌then◌else◌, ◌≡◌}
use Rattle.walrus.specs.Base.Arena.{item_at}
use Rattle.walrus.specs.Model.Abstract.{Abstract}
use Rattle.walrus.specs.Model.Live.{IsLive}
use Rattle.walrus.specs.Items.Functions.{FunctionValue}
use Rattle.walrus.specs.Items.CustomSection.{Ghosts}
use Rattle.walrus.specs.Items.Error.{Error}
use Rattle.walrus.specs.Items.Error.TheVariants.{TooLarge}
use Rattle.walrus.specs.Modules.Flags.{config_of}
use Rattle.walrus.specs.Modules.Settings.{settings}
use Rattle.walrus.specs.Modules.View.{view}
use Rattle.walrus.specs.Modules.SectionEntry.{SectionEntry}
use Rattle.walrus.specs.Modules.Module.{Module}
use Rattle.walrus.specs.Ends.{LeavesLarge, LeavesWritten, LeftOf}
use Rattle.walrus_tools.specs.Kinds.{CountsKinds}
use Rattle.walrus_sections.specs.PartList.{AnswersParts}
use Rattle.walrus_sections.specs.Parts.{HasParts, Part, part_record}
use Rattle.walrus_tools.specs.Weigh.{IsWeighed, bytes_of, is_debug, is_dropped, part_size}
use Rattle.walrus_tools.specs.declared.kinds.Kinds.{Kinds}
use Rattle.walrus_sections.specs.declared.parts.Part.{Part as RawPart}
use Rattle.walrus_tools.specs.declared.weigh.Smaller.{Smaller}
use Rattle.walrus_tools.specs.declared.weigh.Weighed.{Weighed}

-- ---- of the input

-- the bytes of a part if it passes the test, and else none
abbrev pub size_if : (passes : Part → Bool) → Part → ℕ
size_if passes p = if passes p then part_size p else 0

-- how many bytes have together those of these parts in memory that pass the test
abbrev pub sizes : (passes : Part → Bool) → List RawPart → ℕ
sizes passes parts = sum_by (λ (p : RawPart). size_if passes (part_record p)) parts

-- a function is there
abbrev pub is_left : List (Option FunctionValue) → ℕ → Bool
is_left slots i = is_some (item_at slots i)

-- of these bytes so many are bodies of functions that aren't there, and so many debug information
pub record IsInput (bytes : List ℕ) (slots : List (Option FunctionValue)) (bodies debug : ℕ) : Type 0 where
  pub parts : List Part
  pub has : HasParts bytes parts
  pub bodies_are : bodies ≡ bytes_of (is_dropped (is_left slots)) parts
  pub debug_is : debug ≡ bytes_of is_debug parts

-- memory ran out, or the bytes have no parts
abbrev pub HasNoParts : (bytes : List ℕ) → Error → Type 0
HasNoParts bytes e = AnswersParts bytes (Err e)

-- so many, or a refusal with its cause
abbrev pub WeighsInput : (bytes : List ℕ) → List (Option FunctionValue) → Result (ℕ × ℕ) Error → Type 0
WeighsInput bytes slots result = MatchResult result (λ w. IsInput bytes slots w.0 w.1) (HasNoParts bytes)

-- ---- of a module in memory

module _ {V : Type 0} {O : V → Type 0} (G : (v : V) → Ghosts (O v)) where
  -- what is kept of the module was written, and this is told of it, if it was edited from one of so many items
  pub record IsWeighedIn (bytes output : List ℕ) (before : Kinds) (m : Module (SectionEntry V O)) (told : Weighed) : Type 0 where
    pub leaves : LeavesWritten (LeftOf (view G m)) (config_of (settings m)) output
    pub weighed : (parsed : Abstract) → CountsKinds (IsLive parsed) before → IsWeighed bytes output parsed (view G m) told

  -- such, or a refusal with its cause
  abbrev pub WeighsReady : (bytes : List ℕ) → (before : Kinds) → Module (SectionEntry V O) → Result Smaller Error → Type 0
  WeighsReady bytes before m (Ok s) = IsWeighedIn bytes s.output.items before m s.told
  WeighsReady bytes before m (Err TooLarge) = LeavesLarge (LeftOf (view G m)) (config_of (settings m))
  WeighsReady bytes before m (Err e) = HasNoParts bytes e
