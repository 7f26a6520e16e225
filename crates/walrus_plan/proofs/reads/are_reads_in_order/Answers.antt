use Rattle.walrus_plan.proofs.ReadsBefore.{both_in_order}
use Rattle.walrus_plan.proofs.reads.are_reads_in_order.Goals as goal

pub returns-then-not-branch-clause-lacks : goal.returns-then-not-branch-clause-lacks
returns-then-not-branch-clause-lacks c = λ is. c.in_ok-do_tables_read_imported.ensures.lacks c.if-not-branch.true

pub returns-clause-in_order : goal.returns-clause-in_order
returns-clause-in_order c = both_in_order c.args.parts (c.in_ok-do_tables_read_imported.ensures.in_order c.if-not-branch.false) c.do_globals_read_earlier.result c.do_globals_read_earlier.ensures.in_order
