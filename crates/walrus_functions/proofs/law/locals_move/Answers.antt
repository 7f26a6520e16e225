use Rattle.walrus_functions.proofs.LawMoves.{there, back}
use Rattle.walrus_functions.proofs.law.locals_move.Goals as goal

pub returns-clause-there : goal.returns-clause-there
returns-clause-there c = there

pub returns-clause-back : goal.returns-clause-back
returns-clause-back c = back
