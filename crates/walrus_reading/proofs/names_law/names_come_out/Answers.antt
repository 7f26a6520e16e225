use Rattle.walrus_reading.proofs.ParsedNamed.{parsed_named as lemma}
use Rattle.walrus_reading.proofs.names_law.names_come_out.Goals as goal

pub returns : goal.returns
returns c = lemma
