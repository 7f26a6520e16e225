use Rattle.walrus_reading.proofs.OwnNames.{added_uncalled as lemma}
use Rattle.walrus_reading.proofs.names_law.added_uncalled.Goals as goal

pub returns : goal.returns
returns c = lemma
