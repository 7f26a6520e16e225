use Rattle.std.proofs.Common.{◌∙◌, ℕ, Option, ap}
use Rattle.std.specs.Prelude.{unwrap_or}
use Rattle.walrus_base.specs.Operators.{Space}
use Rattle.walrus_constants.proofs.law.look_ups_rename.Goals as goal

pub returns : goal.returns
returns c = λ r names by space n found e. ap (λ (f : Space → ℕ → ℕ). f space n) by ∙ ap (λ (o : Option ℕ). unwrap_or o 0) e
