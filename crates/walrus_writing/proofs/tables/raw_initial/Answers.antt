use Rattle.walrus_writing.proofs.tables.raw_initial.Goals as goal

pub returns-in_ok-new-in-Some-clause-indexed : goal.returns-in_ok-new-in-Some-clause-indexed
returns-in_ok-new-in-Some-clause-indexed c = rw (c.in-Some.is, c.in_ok-new-in-Some.ensures.ok) c.in_ok-initial-in-Some.ensures.indexed

pub returns-in_ok-new-in-Some-clause-spelled : goal.returns-in_ok-new-in-Some-clause-spelled
returns-in_ok-new-in-Some-clause-spelled c = rw (c.in_ok-new-in-Some.ensures.ok) c.in_ok-initial-in-Some.ensures.spelled
