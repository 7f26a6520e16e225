use Rattle.walrus_sections.proofs.OneBeginning.{one_beginning}
use Rattle.walrus_sections.proofs.beginnings.has_one_beginning.Goals as goal

pub returns : goal.returns
returns c = one_beginning
