-- What is left of a module that is read, and where its functions stand in the bytes that are written ("Binary Format > Code Section").
use Rattle.std.specs.Prelude.{ℕ, List, false, ◌≡◌}
use Rattle.walrus.specs.Code.Transform.{Transform}
use Rattle.walrus.specs.Model.Abstract.{Abstract}
use Rattle.walrus.specs.Model.Config.{Config}
use Rattle.walrus.specs.Contents.Contents.{Contents}
use Rattle.walrus.specs.Modules.Answered.{IsWellWritten}
use Rattle.walrus.specs.Modules.Transform.{IsTransformOf}
use Rattle.walrus.specs.Edits.{EditsTo}

-- nothing is edited
abbrev pub IsSame : Contents → Contents → Type 0
IsSame old new = new ≡ old

-- The bytes are those of a module, which was edited so; u is what gc and emission left of it; these bytes were written of that, whose places the
-- transform tells.
pub record IsMeasured (Edits : Contents → Contents → Type 0) (c : Config) (bytes : List ℕ) (u : Abstract) (transform : Transform) : Type 0 where
  pub comes : EditsTo Edits c bytes u
  pub output : List ℕ
  pub written : IsWellWritten c u output
  pub locations : ℕ → List ℕ
  pub tells : IsTransformOf c false locations u output transform
