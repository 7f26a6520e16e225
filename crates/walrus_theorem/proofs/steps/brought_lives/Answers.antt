use Rattle.walrus_theorem.proofs.BroughtLives.{brought_lives, lives_no_dead}
use Rattle.walrus_theorem.proofs.steps.brought_lives.Goals as goal

pub returns : goal.returns
returns g = λ c bytes m u reads holds brings dead. lives_no_dead u (brought_lives c bytes m u reads holds brings) dead
