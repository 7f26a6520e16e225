-- THE MAIN THEOREM: what a run comes to, for all that was read and all that was written. What the bytes of a module come to stands in
-- `walrus_theorem`, with the laws that leave one answer.
use Rattle.std.specs.Prelude.{ℕ, List, ◌++◌, Option, ⊤, Result, Ok, Err, ◌≡◌}
use Rattle.std.specs.Io.KnownBytes.{Appends, Consumes, IsAtEnd, Keeps}
use Rattle.walrus_model.specs.Config.{Config}
use Rattle.walrus_items.specs.declared.error.Error.{Error}
use Rattle.walrus_items.specs.declared.error.Error.TheVariants.{Memory, InvalidWasm, TooLarge}
pub use Rattle.walrus_theorem.specs.Headline.{Accepts, ComesTo, ComesOutTooLarge}
use Rattle.walrus_theorem.specs.Engines.{LooksSame}
use Rattle.walrus_theorem.specs.SettledLaw.{IsSettled}
use Rattle.walrus.specs.declared.tool.ToolError.{ToolError}
use Rattle.walrus.specs.declared.tool.ToolError.TheVariants as tool

-- What the bytes come to. Where a run under the same configuration wrote the bytes, the output is the same bytes again; so no item is dropped, no
-- segment and no shape of a type is added, and custom sections, producers and names stay. No engine that comes to items by references alone
-- tells the module that was written from the one that was read.
pub record ComesOut (c : Config) (bytes output : List ℕ) : Type 0 where
  pub comes : ComesTo c bytes output
  pub settled : (before : List ℕ) → ComesTo c before bytes → IsSettled c bytes output
  pub again : (before : List ℕ) → ComesTo c before bytes → output ≡ bytes
  pub alike : LooksSame comes.module_read comes.module_written

-- ---- the devices; where their bytes aren't known, this says nothing of them

-- these bytes were read, up to the end
pub record ReadsWhole (old new : Option (List ℕ)) (bytes : List ℕ) : Type 0 where
  pub consumed : Consumes old new bytes
  pub ended : IsAtEnd new

-- ---- what is made of all that was read: `Makes` says what of which bytes, `Takes` which bytes aren't refused as invalid, and `IsLarge` of
-- which the outcome is too large

-- all of the source is read, and what is made of it is written
pub record Writes (Makes : List ℕ → List ℕ → Type 0) (from_old from_new to_old to_new : Option (List ℕ)) : Type 0 where
  pub bytes : List ℕ
  pub output : List ℕ
  pub whole : ReadsWhole from_old from_new bytes
  pub made : Makes bytes output
  pub appended : Appends to_old to_new output

-- all of the source is read, and a beginning of what is made of it is written
pub record WritesFront (Makes : List ℕ → List ℕ → Type 0) (from_old from_new to_old to_new : Option (List ℕ)) : Type 0 where
  pub bytes : List ℕ
  pub front : List ℕ
  pub rest : List ℕ
  pub whole : ReadsWhole from_old from_new bytes
  pub made : Makes bytes (front ++ rest)
  pub appended : Appends to_old to_new front

-- all of the source is read, and there is a cause to refuse it
abbrev pub RefusesAll : (List ℕ → Type 0) → Option (List ℕ) → Option (List ℕ) → Type 0
RefusesAll Cause old new = (bytes : List ℕ) × ReadsWhole old new bytes × Cause bytes

-- why a module is refused: memory ran out, or all was read and isn't taken, or the outcome is too large
abbrev pub RefusesRead : (Takes IsLarge : List ℕ → Type 0) → Option (List ℕ) → Option (List ℕ) → Error → Type 0
RefusesRead Takes IsLarge old new (Memory e) = ⊤
RefusesRead Takes IsLarge old new (InvalidWasm kind) = RefusesAll (λ bytes. Takes bytes → ⊥) old new
RefusesRead Takes IsLarge old new TooLarge = RefusesAll IsLarge old new
RefusesRead Takes IsLarge old new _ = ⊥

-- from the source to the sink: the output, or a beginning of it where the sink failed; refused before, nothing is written
abbrev pub Transfers : {X : Type 0} → (Makes : List ℕ → List ℕ → Type 0) → (Takes IsLarge : List ℕ → Type 0) → (from_old from_new to_old to_new : Option (List ℕ)) → Result X ToolError → Type 0
Transfers Makes Takes IsLarge from_old from_new to_old to_new (Ok x) = Writes Makes from_old from_new to_old to_new
Transfers Makes Takes IsLarge from_old from_new to_old to_new (Err tool.Write) = WritesFront Makes from_old from_new to_old to_new
Transfers Makes Takes IsLarge from_old from_new to_old to_new (Err tool.Read) = Keeps to_old to_new
Transfers Makes Takes IsLarge from_old from_new to_old to_new (Err (tool.Module e)) = Keeps to_old to_new × RefusesRead Takes IsLarge from_old from_new e

-- known bytes: what is made of them, or a refusal with its cause
abbrev pub Answers : {X : Type 0} → (Makes : List ℕ → List ℕ → Type 0) → (Takes IsLarge : List ℕ → Type 0) → List ℕ → (X → List ℕ) → Result X Error → Type 0
Answers Makes Takes IsLarge bytes view (Ok x) = Makes bytes (view x)
Answers Makes Takes IsLarge bytes view (Err (Memory e)) = ⊤
Answers Makes Takes IsLarge bytes view (Err (InvalidWasm kind)) = Takes bytes → ⊥
Answers Makes Takes IsLarge bytes view (Err TooLarge) = IsLarge bytes
Answers Makes Takes IsLarge bytes view (Err _) = ⊥

-- ---- a run

-- what a run comes to
abbrev pub Runs : {X : Type 0} → Config → (from_old from_new to_old to_new : Option (List ℕ)) → Result X ToolError → Type 0
Runs c = Transfers (ComesOut c) (Accepts c) (ComesOutTooLarge c)

-- what a run makes of known bytes
abbrev pub RunsOn : {X : Type 0} → Config → List ℕ → (X → List ℕ) → Result X Error → Type 0
RunsOn c = Answers (ComesOut c) (Accepts c) (ComesOutTooLarge c)
