use Rattle.walrus_theorem.proofs.ReadFits.{read_fits}
use Rattle.walrus_theorem.proofs.ReadsOnce.{reads_once_lem}
use Rattle.walrus_theorem.proofs.spelling.reads_once.Goals as goal

pub returns-clause-once : goal.returns-clause-once
returns-clause-once c = reads_once_lem

pub returns-clause-fits : goal.returns-clause-fits
returns-clause-fits c = read_fits
