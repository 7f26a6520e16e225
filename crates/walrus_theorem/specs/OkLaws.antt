-- What may be written reads back, whatever module in memory it is.
use Rattle.std.specs.Prelude.{ℕ, List, Some, ◌≡◌}
use Rattle.walrus_model.specs.Abstract.{Abstract, Body}
use Rattle.walrus_model.specs.Config.{Config}
use Rattle.walrus_model.specs.Names.{body_of}
use Rattle.walrus_model.specs.Order.{ByImport}
use Rattle.walrus_model.specs.Rules.{Holds, RulesHold}
use Rattle.walrus_theorem.specs.Headline.{ReadsModule}
use Rattle.walrus_theorem.specs.Pinned.{IsWrittenAs}
use Rattle.walrus_theorem.specs.Refused.{HasNoCause}
use Rattle.walrus_theorem.specs.Spelling.{IsSpelledAs}
use Rattle.walrus_theorem.specs.WellMade.{IsCounted}

-- the bytes read as this module, and as no other
pub record ReadsAs (c : Config) (bytes : List ℕ) (n : Abstract) : Type 0 where
  pub reads : ReadsModule c bytes n
  pub alone : (m : Abstract) → ReadsModule c bytes m → m ≡ n

-- There is no cause to refuse v, which an answer Ok says; n is what it is written as, and the bytes are the one spelling of that. Then they
-- read as n. That v is well made isn't asked, nor that it keeps any rule.
abbrev pub OkReads : Type 0
OkReads = (c : Config) (v n : Abstract) (bytes : List ℕ) → HasNoCause c v → IsWrittenAs c v n → IsSpelledAs n bytes → ReadsAs c bytes n

-- each body counts the locals that it declares
abbrev pub AreCounted : Abstract → Type 0
AreCounted v = (f : ℕ) (b : Body) → body_of v f ≡ Some b → IsCounted b

-- What a module that keeps the rules is written as keeps them.
abbrev pub RulesWritten : Type 0
RulesWritten =
    (c : Config) (v n : Abstract) (bytes : List ℕ) → RulesHold (ByImport v) v → AreCounted v → IsWrittenAs c v n → IsSpelledAs n bytes
    → Holds n
