-- The laws of that: a second run, under the same configuration, drops no item and adds no segment and no shape of a type.
use Rattle.std.specs.Prelude.{ℕ, List}
use Rattle.walrus_model.specs.Abstract.{Abstract}
use Rattle.walrus_model.specs.Config.{Config}
use Rattle.walrus_model.specs.Rules.{Holds}
use Rattle.walrus_theorem.specs.Chain.{BringsTo}
use Rattle.walrus_theorem.specs.Headline.{ReadsModule, ComesTo}
use Rattle.walrus_theorem.specs.Pinned.{IsWrittenAs}
use Rattle.walrus_theorem.specs.Settled.{Settles}

-- the steps, twice: what the second run writes is all of what the first one wrote
abbrev pub OutSettles : Type 0
OutSettles =
    (c : Config) (bytes : List ℕ) (m u n : Abstract) (bytes2 : List ℕ) (u2 n2 : Abstract)
    → ReadsModule c bytes m → Holds m → BringsTo c m u → IsWrittenAs c u n
    → ReadsModule c bytes2 n → Holds n → BringsTo c n u2 → IsWrittenAs c u2 n2
    → Settles c n n2

-- what the bytes read as is settled in what those others read as
pub record IsSettled (c : Config) (bytes output : List ℕ) : Type 0 where
  pub module_read : Abstract
  pub reads : ReadsModule c bytes module_read
  pub module_written : Abstract
  pub output_reads : ReadsModule c output module_written
  pub settles : Settles c module_read module_written

-- the program on what the program wrote
abbrev pub RunsSettle : Type 0
RunsSettle = (c : Config) (bytes output again : List ℕ) → ComesTo c bytes output → ComesTo c output again → IsSettled c output again
