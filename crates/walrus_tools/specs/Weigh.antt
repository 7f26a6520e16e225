-- What is told of a module that is read, edited, rid of what nothing reaches, and written: how many items, and how many bytes ("Structure > Modules >
-- Indices", "Binary Format > Modules").
use Rattle.std.specs.Prelude.{ℕ, Bool, false, not, List, Option, Some, None, Result, filter, length, sum_by, ◌≡◌, ◌↔◌, true}
use Rattle.walrus.specs.Base.Operators.{Functions}
use Rattle.walrus.specs.Model.Abstract.{Abstract}
use Rattle.walrus.specs.Model.Config.{Config}
use Rattle.walrus.specs.Model.Kept.{Kept}
use Rattle.walrus.specs.Model.Live.{IsLive}
use Rattle.walrus.specs.Items.Error.{Error}
use Rattle.walrus.specs.Contents.Contents.{Contents}
use Rattle.wasm_wire.specs.ModuleSpelling.{is_debug_name}
use Rattle.walrus_sections.specs.Choice.{Choice}
use Rattle.walrus_tools.specs.ChosenModule.{KeepsChosen, RefusesChosen}
use Rattle.walrus.specs.Edits.{EditsTo, RefusesEdit, with_customs}
use Rattle.walrus.specs.Ends.{Answers, LeavesLarge, LeavesWritten}
use Rattle.walrus_tools.specs.Kinds.{CountsKinds}
use Rattle.walrus_sections.specs.Parts.{FunctionPart, HasParts, Part, SectionPart, SegmentPart}
use Rattle.walrus_tools.specs.declared.weigh.Smaller.{Smaller}
use Rattle.walrus_tools.specs.declared.weigh.Weighed.{Weighed}

-- ---- bytes of the input

-- how many bytes a part has: of a function those of its body
abbrev pub part_size : Part → ℕ
part_size (SectionPart p) = length p.bytes
part_size (FunctionPart i) = i.size
part_size (SegmentPart i) = i.size

-- a function with a body that isn't among those that stay
abbrev pub is_dropped : (stays : ℕ → Bool) → Part → Bool
is_dropped stays (FunctionPart i) = not (stays i.index)
is_dropped stays _ = false

-- a name of debug information
abbrev pub names_debug : Option (List ℕ) → Bool
names_debug (Some name) = is_debug_name name
names_debug None = false

-- a custom section of debug information
abbrev pub is_debug : Part → Bool
is_debug (SectionPart p) = names_debug p.name
is_debug _ = false

-- how many bytes have these parts together, if they pass the test
abbrev pub bytes_of : (passes : Part → Bool) → List Part → ℕ
bytes_of passes parts = sum_by part_size (filter passes parts)

-- ---- what is told

-- Of these bytes `parsed` was parsed and edited to `edited`, of which gc left what is kept, and that was written as `output`. Told is how many items
-- there were, how many are left, how many bytes were read and written, and how many the bodies of functions have that aren't kept, and debug
-- information.
pub record IsWeighed (bytes output : List ℕ) (parsed edited : Abstract) (told : Weighed) : Type 0 where
  pub before : CountsKinds (IsLive parsed) told.before
  pub after : CountsKinds (Kept edited) told.after
  pub read : told.read ≡ length bytes
  pub written : told.written ≡ length output
  pub parts : List Part
  pub has : HasParts bytes parts
  pub stays : ℕ → Bool
  pub stay : (f : ℕ) → (stays f ≡ true) ↔ Kept edited (Functions, f)
  pub bodies : told.bodies ≡ bytes_of (is_dropped stays) parts
  pub debug : told.debug ≡ bytes_of is_debug parts

-- ---- from bytes to bytes

module _ {Edits : Contents → Contents → Type 0} {c : Config} {bytes : List ℕ} {u : Abstract} where
  -- what was parsed of the bytes, and what that was edited to
  abbrev pub as_parsed : EditsTo Edits c bytes u → Abstract
  as_parsed to = with_customs to.customs to.module_parsed

  abbrev pub as_edited : EditsTo Edits c bytes u → Abstract
  as_edited to = with_customs to.customs to.module_edited

module _ (Edits : Contents → Contents → Type 0) where
  -- the output is what the edit and gc leave, and this is told of it
  pub record IsSmaller (c : Config) (bytes output : List ℕ) (told : Weighed) : Type 0 where
    pub leaves : LeavesWritten (EditsTo Edits c bytes) c output
    pub weighed : IsWeighed bytes output (as_parsed leaves.left) (as_edited leaves.left) told

  -- what is made of the bytes is as Done says; or a refusal with its cause
  abbrev pub AnswersAs : {X : Type 0} → (Refuses : Contents → Error → Type 0) → Config → List ℕ → (Done : X → Type 0) → Result X Error → Type 0
  AnswersAs Refuses c bytes Done = Answers c bytes Done (LeavesLarge (EditsTo Edits c bytes) c) (RefusesEdit Refuses c bytes)

  -- the edited module, written, and what is told of it
  abbrev pub AnswersWeighed : (Refuses : Contents → Error → Type 0) → Config → (bytes : List ℕ) → Result Smaller Error → Type 0
  AnswersWeighed Refuses c bytes result = AnswersAs Refuses c bytes (λ (s : Smaller). IsSmaller c bytes s.output.items s.told) result

-- what is told of the module of its chosen exports
abbrev pub AnswersReport : Config → (bytes : List ℕ) → List Choice → Result Weighed Error → Type 0
AnswersReport c bytes choices result =
    AnswersAs (KeepsChosen choices) (RefusesChosen choices) c bytes
    (λ (told : Weighed). (output : List ℕ) × IsSmaller (KeepsChosen choices) c bytes output told) result
