use Rattle.walrus_reading.proofs.OwnNames.{local_called as lemma}
use Rattle.walrus_reading.proofs.names_law.locals_called.Goals as goal

pub returns : goal.returns
returns c = lemma
