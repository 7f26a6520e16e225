use Rattle.walrus_theorem.proofs.WrittenHolds as all
use Rattle.walrus_theorem.proofs.written.written_holds.Goals as goal

pub returns : goal.returns
returns g = all.written_holds
