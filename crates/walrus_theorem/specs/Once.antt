-- What a module in memory is written as is one module.
use Rattle.std.specs.Prelude.{ℕ, List, Some, IsSome, Contains, ◌≡◌}
use Rattle.walrus_base.specs.Operators.{Functions, Item}
use Rattle.walrus_model.specs.Abstract.{Abstract, Body, Export}
use Rattle.walrus_model.specs.Config.{Config}
use Rattle.walrus_model.specs.Live.{IsLive}
use Rattle.walrus_model.specs.Names.{body_of}
use Rattle.walrus_model.specs.Refers.{written_in, IsUsed}
use Rattle.walrus_theorem.specs.Pinned.{IsWrittenAs}
use Rattle.walrus_theorem.specs.Refused.{HasDead}
use Rattle.walrus_theorem.specs.Spelling.{IsSpelling, IsSpelledAs, SpelledOnce}
use Rattle.walrus_theorem.specs.Text.{Text, said_by}
use Rattle.walrus_theorem.specs.WellMade.{IsWellMade}

-- what is named in items is there, each used local has a type, and what is exported or is where it starts is there

abbrev pub NamesLive : Abstract → Type 0
NamesLive v = (x y : Item) → Contains (written_in v x) y → IsLive v y

abbrev pub TypesLocals : Abstract → Type 0
TypesLocals v = (f : ℕ) (b : Body) (x : ℕ) → body_of v f ≡ Some b → IsUsed b x → IsSome (b.local_type x)

abbrev pub ExportsLive : Abstract → Type 0
ExportsLive v = (e : Export) → Contains v.exports e → IsLive v e.item

abbrev pub StartsLive : Abstract → Type 0
StartsLive v = (f : ℕ) → v.start ≡ Some f → IsLive v (Functions, f)

-- each well-made module keeps them
pub record Premises (v : Abstract) : Type 0 where
  pub written : NamesLive v
  pub locals : TypesLocals v
  pub exports : ExportsLive v
  pub start : StartsLive v

-- what a module in memory is written as is one module
abbrev pub WrittenOnce : Type 0
WrittenOnce = (c : Config) (v : Abstract) (s t : Text) → Premises v → IsSpelling (said_by s) s → IsSpelling (said_by t) t → IsWrittenAs c v (said_by s) → IsWrittenAs c v (said_by t) → said_by s ≡ said_by t

-- they hold of each
abbrev pub PremisesHold : Type 0
PremisesHold = (c : Config) (v : Abstract) → IsWellMade c v → Premises v

-- and of each that names nothing dead: one that names something dead is refused
abbrev pub LivingKeeps : Type 0
LivingKeeps = (v : Abstract) → (HasDead v → ⊥) → Premises v

-- so its bytes are one function of it, since a module has one spelling
abbrev pub BytesOnce : Type 0
BytesOnce = SpelledOnce → (c : Config) (v n m : Abstract) (a b : List ℕ) → Premises v → IsWrittenAs c v n → IsWrittenAs c v m → IsSpelledAs n a → IsSpelledAs m b → a ≡ b
