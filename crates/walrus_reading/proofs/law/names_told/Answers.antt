use Rattle.walrus_reading.proofs.NamesTold.{names_told as lemma}
use Rattle.walrus_reading.proofs.law.names_told.Goals as goal

pub returns : goal.returns
returns c = lemma
