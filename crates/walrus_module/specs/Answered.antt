-- What emission answers for a module that is well made, edited or not ("Binary Format > Modules", "Validation > Modules").
use Rattle.std.specs.Prelude.{ℕ, List, Result, Ok, Err, ⊤}
use Rattle.walrus_model.specs.Abstract.{Abstract}
use Rattle.walrus_model.specs.Config.{Config}
use Rattle.walrus_model.specs.Rules.{Holds}
use Rattle.walrus_theorem.specs.Headline.{ReadsModule}
use Rattle.walrus_theorem.specs.Pinned.{IsWrittenAs}
use Rattle.walrus_theorem.specs.Refused.{Refusal, Memory, TooLarge, Caller}
use Rattle.walrus_theorem.specs.Spelling.{IsSpelledAs}

-- the module v in memory is written as one module of indices that keeps the rules; the bytes are the one spelling of that, and read as it
pub record IsWellWritten (c : Config) (v : Abstract) (bytes : List ℕ) : Type 0 where
  pub module_written : Abstract
  pub written : IsWrittenAs c v module_written
  pub spelled : IsSpelledAs module_written bytes
  pub reads : ReadsModule c bytes module_written
  pub holds : Holds module_written

-- written as P says; or refused for want of memory, as too large only where Large holds, by a custom section only where Asked does, and else never
abbrev pub WritesUnless : {X : Type 0} → (Large Asked : Type 0) → (X → Type 0) → Result X Refusal → Type 0
WritesUnless Large Asked P (Ok x) = P x
WritesUnless Large Asked P (Err Memory) = ⊤
WritesUnless Large Asked P (Err TooLarge) = Large
WritesUnless Large Asked P (Err Caller) = Asked
WritesUnless Large Asked P (Err _) = ⊥
