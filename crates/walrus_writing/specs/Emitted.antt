-- What emission gives, and when it refuses, in the words of the abstract module.
use Rattle.std.specs.Prelude.{ℕ, List, ◌≡◌, Result, Ok, Err}
use Rattle.walrus_model.specs.Abstract.{Abstract}
use Rattle.walrus_model.specs.Config.{Config}
use Rattle.walrus_model.specs.Declared.{NothingUndeclared}
use Rattle.walrus_model.specs.Rules.{Holds}
use Rattle.walrus_items.specs.declared.error.Error.{Error}
use Rattle.walrus_items.specs.declared.error.Error.TheVariants as errors
use Rattle.walrus_theorem.specs.Features.{features_of}
use Rattle.walrus_theorem.specs.Headline.{ReadsModule}
use Rattle.walrus_theorem.specs.Pinned.{IsWrittenAs}
use Rattle.walrus_theorem.specs.Refused.{IsSayable, Refusal}
use Rattle.walrus_theorem.specs.Refused as causes
use Rattle.walrus_theorem.specs.Spelling.{IsSpelledAs}
use Rattle.walrus_theorem.specs.WellMade.{IsWellMade}
use Rattle.walrus_writing.specs.declared.write.Choices.{Choices}

-- a configuration of these choices
pub record IsWrittenWith (c : Config) (choices : Choices) : Type 0 where
  pub features_are : choices.features ≡ features_of c
  pub names_are : choices.names ≡ c.writes_names
  pub producers_are : choices.producers ≡ c.writes_producers

-- The module v is written as a module of indices, and the bytes are its one spelling. Where v is well made and nothing is undeclared,
-- they read as that module, and it keeps the rules.
pub record EmittedAs (c : Config) (v : Abstract) (bytes : List ℕ) : Type 0 where
  pub module_written : Abstract
  pub written : IsWrittenAs c v module_written
  pub spelled : IsSpelledAs module_written bytes
  pub reads : IsWellMade c v → NothingUndeclared v → ReadsModule c bytes module_written
  pub holds : IsWellMade c v → NothingUndeclared v → Holds module_written

-- so it is where a module of indices can say its custom sections
abbrev pub IsEmitted : Config → Abstract → List ℕ → Type 0
IsEmitted c v bytes = IsSayable v → EmittedAs c v bytes

-- which refusal an error tells of
abbrev pub refusal_of : Error → Refusal
refusal_of (errors.Memory e) = causes.Memory
refusal_of errors.DeadItem = causes.DeadItem
refusal_of errors.NoIndex = causes.NoIndex
refusal_of errors.TwoIndices = causes.TwoIndices
refusal_of errors.TooLarge = causes.TooLarge
refusal_of errors.NotWritable = causes.NotWritable
refusal_of (errors.Caller text) = causes.Caller
refusal_of (errors.InvalidWasm kind) = causes.Another
refusal_of errors.NotFound = causes.Another
refusal_of errors.SeveralMemories = causes.Another
refusal_of errors.NoMemory = causes.Another
refusal_of errors.SeveralFunctionTables = causes.Another
refusal_of errors.NotExported = causes.Another
refusal_of errors.NotImported = causes.Another
refusal_of errors.NotReplaceable = causes.Another

-- an answer, with its error as a refusal
abbrev pub told : {X : Type 0} → Result X Error → Result X Refusal
told (Ok x) = Ok x
told (Err e) = Err (refusal_of e)
