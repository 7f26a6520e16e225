use Rattle.std.proofs.Common.{arith, lit<}
use Rattle.walrus_base.specs.Operators.{Globals}
use Rattle.walrus_code_tests.proofs.constants.sum_is_read.Goals as goal

pub push_global-requires-clause-is_new : goal.push_global-requires-clause-is_new
push_global-requires-clause-is_new c = rw (c.new-ids.ensures Globals) (λ found. absurd (omega (arith, found.1)))

pub push_global-requires-clause-room : goal.push_global-requires-clause-room
push_global-requires-clause-room c = rw (c.new-ids.ensures Globals) (lit< tt)
