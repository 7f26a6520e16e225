use Rattle.walrus_reading.proofs.View.{same_but_named as lemma}
use Rattle.walrus_reading.proofs.names_law.same_but_named.Goals as goal

pub returns : goal.returns
returns c = lemma
