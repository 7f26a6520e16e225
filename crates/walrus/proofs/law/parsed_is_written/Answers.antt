use Rattle.walrus.proofs.WholeLemmas.{parsed_is_written}
use Rattle.walrus.proofs.law.parsed_is_written.Goals as goal

pub returns : goal.returns
returns g c = parsed_is_written _
