use Rattle.walrus_constants.proofs.Renamed.{const_back}
use Rattle.walrus_constants.proofs.law.constants_lead_back.Goals as goal

pub returns : goal.returns
returns c = λ there back leads ops found e. const_back there back leads ops found e
