use Rattle.walrus_theorem.proofs.StepLive.{plain_comes_out}
use Rattle.walrus_theorem.proofs.steps.plain_comes_out.Goals as goal

pub returns : goal.returns
returns g = λ c bytes m v u n reads holds parsed leaves written. plain_comes_out c bytes m v u n reads holds parsed leaves written
