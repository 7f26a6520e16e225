-- What keeping the functions that a section lists comes to, from bytes to bytes.
use Rattle.std.specs.Prelude.{ℕ, List, map, Option, Some, None, Contains, Result, ⊤}
use Rattle.std.specs.Global.{Vec}
use Rattle.walrus.specs.Base.Operators.{Functions}
use Rattle.walrus.specs.Model.Abstract.{Abstract}
use Rattle.walrus.specs.Model.Config.{Config}
use Rattle.walrus.specs.Model.Kept.{Kept}
use Rattle.walrus.specs.Items.Error.{Error}
use Rattle.walrus.specs.Modules.Parsed.{IsParsed}
use Rattle.walrus.specs.Ends.{Answers, IfNotFound, LeavesLarge, LeavesWritten, LeftOf}
use Rattle.walrus_examples.specs.ListSection.{HasListing, KeepsListed, ListsNone}

-- the functions that w was to keep stay, and the output lists them by their new indices
pub record ListsAgain (c : Config) (name : List ℕ) (w : Abstract) (output : List ℕ) (finished : LeavesWritten (LeftOf w) c output) (functions : List ℕ) : Type 0 where
  pub kept : (f : ℕ) → Contains functions f → Kept w (Functions, f)
  pub listed : HasListing name finished.written.module_written.customs (map (finished.written.written.written.renaming.numbers Functions) functions)

abbrev pub MayListAgain : (c : Config) (name : List ℕ) (w : Abstract) (output : List ℕ) (finished : LeavesWritten (LeftOf w) c output) → Option (List ℕ) → Type 0
MayListAgain c name w output finished None = ⊤
MayListAgain c name w output finished (Some functions) = ListsAgain c name w output finished functions

-- The bytes were parsed; the functions that a section of this name lists, if there is one, are to be kept; what is left of that is written, and so
-- they are kept and listed.
pub record IsKeptListed (c : Config) (bytes name output : List ℕ) : Type 0 where
  pub module_parsed : Abstract
  pub parsed : IsParsed c bytes module_parsed
  pub listed : Option (List ℕ)
  pub module_asking : Abstract
  pub asks : KeepsListed name module_parsed module_asking listed
  pub finished : LeavesWritten (LeftOf module_asking) c output
  pub again : MayListAgain c name module_asking output finished listed

-- the bytes are accepted, but what is to be written is too large
pub record IsLargeListed (c : Config) (bytes name : List ℕ) : Type 0 where
  pub module_parsed : Abstract
  pub parsed : IsParsed c bytes module_parsed
  pub listed : Option (List ℕ)
  pub module_asking : Abstract
  pub asks : KeepsListed name module_parsed module_asking listed
  pub too_large : LeavesLarge (LeftOf module_asking) c

-- the module that keeps what is listed, or a refusal with its cause, as that the first section of this name lists no functions of what was parsed
abbrev pub AnswersKeepListed : Config → (bytes name : List ℕ) → Result (Vec ℕ) Error → Type 0
AnswersKeepListed c bytes name result =
    Answers c bytes (λ (output : Vec ℕ). IsKeptListed c bytes name output.items) (IsLargeListed c bytes name) (IfNotFound ((v : Abstract) × IsParsed c bytes v × ListsNone name v)) result
