use Rattle.walrus_theorem.proofs.WrittenBodies.{written_bodies}
use Rattle.walrus_theorem.proofs.WrittenReads.{written_reads}
use Rattle.walrus_theorem.proofs.SpelledFits as spelled
use Rattle.walrus_theorem.proofs.SpelledReads as back
use Rattle.walrus_theorem.proofs.spelling.spelled_reads.Goals as goal

pub returns-clause-fits : goal.returns-clause-fits
returns-clause-fits c = spelled.spelled_fits

pub returns-clause-back : goal.returns-clause-back
returns-clause-back c = back.spelled_reads

pub returns-clause-written : goal.returns-clause-written
returns-clause-written c = written_reads

pub returns-clause-bodies : goal.returns-clause-bodies
returns-clause-bodies c = written_bodies
