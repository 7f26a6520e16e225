use Rattle.walrus_functions.proofs.LawOnce.{once}
use Rattle.walrus_functions.proofs.law.bodies_read_once.Goals as goal

pub returns : goal.returns
returns c = once
