-- What is parsed is well made, gc and the declared segment keep that, and what is written of it keeps the rules.
use Rattle.std.specs.Prelude.{ℕ, List}
use Rattle.walrus_model.specs.Abstract.{Abstract}
use Rattle.walrus_model.specs.Config.{Config}
use Rattle.walrus_model.specs.Declared.{NothingUndeclared}
use Rattle.walrus_model.specs.Rules.{Holds}
use Rattle.walrus_model.specs.Pipeline.{Collected, ReachedIsLive}
use Rattle.walrus_theorem.specs.Chain.{BringsTo, Leaves, ParsedAs}
use Rattle.walrus_theorem.specs.Headline.{ReadsModule}
use Rattle.walrus_theorem.specs.Pinned.{IsWrittenAs}
use Rattle.walrus_theorem.specs.Refused.{HasDead, HasTwoIndices, LacksIndex, HasUnspelled}
use Rattle.walrus_theorem.specs.Spelling.{IsSpelling}
use Rattle.walrus_theorem.specs.Text.{Text, said_by}
use Rattle.walrus_theorem.specs.WellMade.{IsWellMade}

-- nothing of what the steps bring a module to is named and not there
abbrev pub BroughtLives : Type 0
BroughtLives = (c : Config) (bytes : List ℕ) (m u : Abstract) → ReadsModule c bytes m → Holds m → BringsTo c m u → HasDead u → ⊥

-- what is written of a well-made module keeps the rules
abbrev pub WrittenHolds : Type 0
WrittenHolds = (c : Config) (u : Abstract) (t : Text) → IsWellMade c u → NothingUndeclared u → IsWrittenAs c u (said_by t) → IsSpelling (said_by t) t → Holds (said_by t)

-- what gc leaves of a well-made module in which all that is reached is there is well made
abbrev pub CollectedWell : Type 0
CollectedWell = (c : Config) (v w : Abstract) → IsWellMade c v → ReachedIsLive v → Collected v w → IsWellMade c w

-- the declared segment keeps it so, and then nothing is undeclared
abbrev pub LeavesWell : Type 0
LeavesWell = (c : Config) (w u : Abstract) → IsWellMade c w → Leaves w u → IsWellMade c u × NothingUndeclared u

-- a well-made module has none of these causes to be refused
pub record HasNoOther (c : Config) (u : Abstract) : Type 0 where
  pub all_there : HasDead u → ⊥
  pub one_index : HasTwoIndices u → ⊥
  pub indices : LacksIndex u → ⊥
  pub spelled : HasUnspelled c u → ⊥

abbrev pub WellNoCause : Type 0
WellNoCause = (c : Config) (u : Abstract) → IsWellMade c u → HasNoOther c u

-- what is parsed from bytes is well made
abbrev pub ParsedWell : Type 0
ParsedWell = (c : Config) (bytes : List ℕ) (m v : Abstract) → ReadsModule c bytes m → Holds m → ParsedAs c m v → IsWellMade c v

-- what the steps bring a module to is well made, so it has none of these causes, and what is written of it keeps the rules
pub record IsFine (c : Config) (u : Abstract) : Type 0 where
  pub made : IsWellMade c u
  pub declared : NothingUndeclared u
  pub no_cause : HasNoOther c u
  pub written : (t : Text) → IsWrittenAs c u (said_by t) → IsSpelling (said_by t) t → Holds (said_by t)

abbrev pub BroughtWell : Type 0
BroughtWell = (c : Config) (bytes : List ℕ) (m u : Abstract) → ReadsModule c bytes m → Holds m → BringsTo c m u → IsFine c u
