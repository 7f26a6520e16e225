use Rattle.walrus_theorem.proofs.OkReads.{ok_reads, rules_written}
use Rattle.walrus_theorem.proofs.written.ok_reads.Goals as goal

pub returns-clause-reads : goal.returns-clause-reads
returns-clause-reads c = ok_reads

pub returns-clause-rules : goal.returns-clause-rules
returns-clause-rules c = rules_written
