use Rattle.walrus_theorem.proofs.RulesAgree as rules
use Rattle.walrus_theorem.proofs.rules.rules_agree.Goals as goal

pub returns-clause-records : goal.returns-clause-records
returns-clause-records c = rules.agree

pub returns-clause-reads : goal.returns-clause-reads
returns-clause-reads c = rules.reads_agree
