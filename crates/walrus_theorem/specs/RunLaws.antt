-- The laws for a run: from what was read, parsed, left by gc and by emission, and from what this says of that, to
-- what the run comes to.
use Rattle.std.specs.Prelude.{ℕ, List, All, Result, Ok, Err, ⊤}
use Rattle.wasm_writer.specs.Spelling.{SectionFits}
use Rattle.walrus_model.specs.Abstract.{Abstract}
use Rattle.walrus_model.specs.Config.{Config}
use Rattle.walrus_model.specs.Declared.{NothingUndeclared}
use Rattle.walrus_model.specs.Pipeline.{Collected, ReachedIsLive}
use Rattle.walrus_model.specs.Rules.{Holds}
use Rattle.walrus_theorem.specs.Chain.{BringsTo, Leaves, ParsedAs}
use Rattle.walrus_theorem.specs.Headline.{ReadsModule, ComesTo, ComesOutTooLarge}
use Rattle.walrus_theorem.specs.Pinned.{IsWrittenAs}
use Rattle.walrus_theorem.specs.Refused.{Refusal, Memory, DeadItem, NoIndex, TwoIndices, TooLarge, NotWritable, Caller, Another, IsSayable, RefusesToWrite}
use Rattle.walrus_theorem.specs.Spelling.{IsSpelledAs}
use Rattle.walrus_theorem.specs.Text.{sections_of}
use Rattle.walrus_theorem.specs.WellMade.{IsWellMade}
use Rattle.walrus_theorem.specs.WellMadeLaws.{HasNoOther}

-- a module in memory that can be written as it is: nothing is in the way but its size
pub record CanBeWritten (c : Config) (u : Abstract) : Type 0 where
  pub made : IsWellMade c u
  pub declared : NothingUndeclared u
  pub no_cause : HasNoOther c u
  pub sayable : IsSayable u

-- v is parsed from the module m that was read, w is what gc leaves of v, and u is w with the segment that emission adds, if any
pub record AreFine (c : Config) (m v w u : Abstract) : Type 0 where
  pub parsed : IsWellMade c v
  pub reached : ReachedIsLive v
  pub collected : IsWellMade c w
  pub left : CanBeWritten c u
  pub brings : BringsTo c m u

abbrev pub RunsFine : Type 0
RunsFine = (c : Config) (bytes : List ℕ) (m v w u : Abstract) → ReadsModule c bytes m → Holds m → ParsedAs c m v → Collected v w → Leaves w u → AreFine c m v w u

-- what emission says where it writes the module u: the output is the one spelling of what u is written as, and all sections of that fit
pub record IsOutput (c : Config) (u : Abstract) (output : List ℕ) : Type 0 where
  pub module_written : Abstract
  pub written : IsWrittenAs c u module_written
  pub spelled : IsSpelledAs module_written output
  pub fits : All SectionFits (sections_of spelled.text)

-- what is written comes to the output
abbrev pub RunsOutput : Type 0
RunsOutput =
    (c : Config) (bytes output : List ℕ) (m v w u : Abstract)
    → ReadsModule c bytes m → Holds m → ParsedAs c m v → Collected v w → Leaves w u
    → IsOutput c u output → ComesTo c bytes output

-- the same where emission says that it refuses nothing: then the sections fit
abbrev pub RunsOk : Type 0
RunsOk =
    (c : Config) (bytes output : List ℕ) (m v w u n : Abstract)
    → ReadsModule c bytes m → Holds m → ParsedAs c m v → Collected v w → Leaves w u
    → RefusesToWrite ⊥ c u (Ok output) → IsWrittenAs c u n → IsSpelledAs n output → ComesTo c bytes output

-- what is refused for its size comes out too large
abbrev pub RunsTooLarge : Type 0
RunsTooLarge =
    (c : Config) (bytes : List ℕ) (m v w u : Abstract)
    → ReadsModule c bytes m → Holds m → ParsedAs c m v → Collected v w → Leaves w u
    → RefusesToWrite {X = List ℕ} ⊥ c u (Err TooLarge) → ComesOutTooLarge c bytes

-- written, or refused for lack of memory or for its size
abbrev pub IsFew : {X : Type 0} → Result X Refusal → Type 0
IsFew (Ok x) = ⊤
IsFew (Err Memory) = ⊤
IsFew (Err TooLarge) = ⊤
IsFew (Err Caller) = ⊥
IsFew (Err DeadItem) = ⊥
IsFew (Err NoIndex) = ⊥
IsFew (Err TwoIndices) = ⊥
IsFew (Err NotWritable) = ⊥
IsFew (Err Another) = ⊥

-- nothing else is refused
abbrev pub RunsFew : Type 0
RunsFew = (c : Config) (u : Abstract) (result : Result (List ℕ) Refusal) → CanBeWritten c u → RefusesToWrite ⊥ c u result → IsFew result
