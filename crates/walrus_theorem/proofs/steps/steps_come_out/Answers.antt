use Rattle.walrus_theorem.proofs.StepRead.{steps_come_out_lem}
use Rattle.walrus_theorem.proofs.steps.steps_come_out.Goals as goal

pub returns : goal.returns
returns g = λ c bytes m u n reads holds brings written. steps_come_out_lem c bytes m u n reads holds brings written
