-- Where the operators of a module stand, and where those of the functions that gc keeps come to stand ("Binary Format > Modules > Code Section").
use Rattle.std.specs.Prelude.{ℕ, ◌+◌, ◌-◌, ◌^◌, ◌<◌, List, AllPairs, Contains, Some, slice_get, ◌≡◌, ◌↔◌}
use Rattle.walrus.specs.Frames.Record as wire
use Rattle.walrus.specs.Base.Operators.{Functions, Op}
use Rattle.walrus.specs.Model.Config.{Config}
use Rattle.walrus.specs.Model.Kept.{Kept}
use Rattle.walrus.specs.Model.Renaming.{renamed_op}
use Rattle.walrus.specs.Theorem.Headline.{ComesTo}
use Rattle.walrus.specs.Modules.Transform.{imported_functions}
use Rattle.walrus_tools.specs.Stands.{StandsIn}

-- function f of these sections has a body, of which operator number k is this one, and stands at this place
pub record OperatorStands (s : wire.Module) (f k place : ℕ) (o : Op) : Type 0 where
  pub number : ℕ
  pub index : f ≡ imported_functions s + number
  pub body : wire.Body
  pub has : slice_get s.bodies number ≡ Some body
  pub stands : StandsIn body k place o

-- At the old place of the input stands an operator of a function that is kept, and at the new place of the output stands that operator of
-- that function, with what it names renamed.
pub record Moves {c : Config} {bytes output : List ℕ} (comes : ComesTo c bytes output) (old new : ℕ) : Type 0 where
  pub f : ℕ
  pub kept : Kept comes.module_read (Functions, f)
  pub k : ℕ
  pub o : Op
  pub stood : OperatorStands comes.reads.sections f k old o
  pub stands : OperatorStands comes.output_reads.sections (comes.out.renaming.numbers Functions f) k new (renamed_op comes.out.renaming (comes.out.renaming.locals f) o)

-- The bytes come to the output, each operator of a function that is kept moves, and these are the old and the new places of all that do, by
-- rising old place, but those whose old place doesn't fit a location.
pub record TellsMoves (c : Config) (bytes output : List ℕ) (places : List (ℕ × ℕ)) : Type 0 where
  pub comes : ComesTo c bytes output
  pub each : (f k old : ℕ) (o : Op) → Kept comes.module_read (Functions, f) → OperatorStands comes.reads.sections f k old o → (new : ℕ) × Moves comes old new
  pub rising : AllPairs (λ (a : ℕ × ℕ) (b : ℕ × ℕ). a.0 < b.0) places
  pub are : (old new : ℕ) → Contains places (old, new) ↔ ((old < 2 ^ 32 - 1) × Moves comes old new)

-- no bytes that come to an output have two lists of moves
abbrev pub MovesOnce : Type 0
MovesOnce = (c : Config) (bytes output : List ℕ) (places others : List (ℕ × ℕ)) → TellsMoves c bytes output places → TellsMoves c bytes output others → places ≡ others
