-- What comes of bytes that are read, edited and written: what was written, or why nothing was.
use Rattle.std.specs.Prelude.{ℕ, List, Result, Ok, Err, ⊤}
use Rattle.std.specs.Global.{Vec}
use Rattle.walrus_model.specs.Abstract.{Abstract}
use Rattle.walrus_model.specs.Config.{Config}
use Rattle.walrus_model.specs.Pipeline.{Collected}
use Rattle.walrus_items.specs.declared.error.Error.{Error}
use Rattle.walrus_items.specs.declared.error.Error.TheVariants.{Caller, InvalidWasm, Memory, NotFound, TooLarge}
use Rattle.walrus_theorem.specs.Chain.{Leaves}
use Rattle.walrus_theorem.specs.Headline.{Accepts}
use Rattle.walrus_theorem.specs.Refused.{PassesLimits}
use Rattle.walrus_module.specs.Answered.{IsWellWritten}

-- gc left of w what is kept, and emission leaves u of that
pub record LeftOf (w u : Abstract) : Type 0 where
  pub module_collected : Abstract
  pub collected : Collected w module_collected
  pub left : Leaves module_collected u

-- What is left so is written: the output is the one spelling of one module of indices, reads as it, and it keeps the rules.
pub record LeavesWritten (Left : Abstract → Type 0) (c : Config) (output : List ℕ) : Type 0 where
  pub module_left : Abstract
  pub left : Left module_left
  pub written : IsWellWritten c module_left output

-- what is left so, and is to be written, has a count, a size or a limit past 32 bits
pub record LeavesLarge (Left : Abstract → Type 0) (c : Config) : Type 0 where
  pub module_left : Abstract
  pub left : Left module_left
  pub too_large : PassesLimits c module_left

-- what is left so is written, or it is too large, or memory runs out
abbrev pub Finishes : (Left : Abstract → Type 0) → Config → Result (Vec ℕ) Error → Type 0
Finishes Left c (Ok output) = LeavesWritten Left c output.items
Finishes Left c (Err (Memory e)) = ⊤
Finishes Left c (Err TooLarge) = LeavesLarge Left c
Finishes Left c (Err _) = ⊥

-- What was made of the bytes is as Done says. Or memory ran out; or the bytes aren't accepted; or they are, and what is to be made is too large, or
-- is refused for a cause of its own.
abbrev pub Answers : {X : Type 0} → Config → (bytes : List ℕ) → (Done : X → Type 0) → (Large : Type 0) → (Refuses : Error → Type 0) → Result X Error → Type 0
Answers c bytes Done Large Refuses (Ok x) = Done x
Answers c bytes Done Large Refuses (Err (Memory e)) = ⊤
Answers c bytes Done Large Refuses (Err (InvalidWasm kind)) = Accepts c bytes → ⊥
Answers c bytes Done Large Refuses (Err TooLarge) = Large
Answers c bytes Done Large Refuses (Err e) = Refuses e

-- refused for this cause alone, which says that what was asked for isn't there
abbrev pub IfNotFound : (Cause : Type 0) → Error → Type 0
IfNotFound Cause NotFound = Cause
IfNotFound Cause _ = ⊥

-- refused for this cause alone, of which the error says something in words
abbrev pub IfCaller : (Cause : Type 0) → Error → Type 0
IfCaller Cause (Caller text) = Cause
IfCaller Cause _ = ⊥
