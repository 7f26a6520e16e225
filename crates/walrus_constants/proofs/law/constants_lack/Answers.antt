use Rattle.walrus_constants.proofs.Causes.{lacking, not_found}
use Rattle.walrus_constants.proofs.law.constants_lack.Goals as goal

pub returns : goal.returns
returns c = λ names ops. (lacking names ops, not_found names ops)
