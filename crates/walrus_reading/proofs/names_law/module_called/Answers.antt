use Rattle.walrus_reading.proofs.OwnNames.{module_called as lemma}
use Rattle.walrus_reading.proofs.names_law.module_called.Goals as goal

pub returns : goal.returns
returns c = lemma
