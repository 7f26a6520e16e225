-- Where the operators of a body stand ("Binary Format > Instructions > Expressions").
use Rattle.std.specs.Prelude.{ℕ, ◌+◌, List, ◌++◌, length, ◌≡◌}
use Rattle.walrus.specs.Forms.RawVal.{RawVal}
use Rattle.walrus.specs.Forms.Grammar.{Is, IsRow}
use Rattle.walrus.specs.Operators.Operators as operators
use Rattle.walrus.specs.Operators.Forms.{operator}
use Rattle.walrus.specs.Frames.Record as wire
use Rattle.walrus.specs.Base.Operators.{Op}
use Rattle.walrus.specs.Code.FromRaw.{op_of}
use Rattle.walrus.specs.Modules.Body.{declarations}

-- The bytes of a body begin with declarations of locals; behind these stand k operators, and then this one. Its first byte has this place
-- among the bytes of the module ("Binary Format > Instructions > Expressions").
pub record StandsIn (body : wire.Body) (k place : ℕ) (o : Op) : Type 0 where
  pub locals : List ℕ
  pub declared : List (ℕ × RawVal)
  pub declares : Is declarations locals declared
  pub front : List ℕ
  pub before : List operators.Op
  pub leads : IsRow (Is operator) front before
  pub counted : length before ≡ k
  pub own : List ℕ
  pub text : operators.Op
  pub spelled : Is operator own text
  pub says : op_of text ≡ o
  pub behind : List ℕ
  pub parts : body.bytes ≡ locals ++ (front ++ (own ++ behind))
  pub stands : place ≡ body.start + length locals + length front
