use Rattle.walrus_theorem.proofs.ReadAccepted.{accepts_read_lem}
use Rattle.walrus_theorem.proofs.rules.accepts_read.Goals as goal

pub returns : goal.returns
returns c = accepts_read_lem
