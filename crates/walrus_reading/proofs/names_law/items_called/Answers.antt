use Rattle.walrus_reading.proofs.OwnNames.{item_called as lemma}
use Rattle.walrus_reading.proofs.names_law.items_called.Goals as goal

pub returns : goal.returns
returns c = lemma
