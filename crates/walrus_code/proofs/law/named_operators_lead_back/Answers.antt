use Rattle.walrus_code.proofs.BackLemmas.{ops_back}
use Rattle.walrus_code.proofs.law.named_operators_lead_back.Goals as goal

pub returns : goal.returns
returns c = λ there back locals locals_back leads locals_lead ops found is. ops_back there back leads locals locals_back locals_lead ops found is
