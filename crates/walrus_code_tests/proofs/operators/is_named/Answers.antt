use Rattle.std.proofs.Common.{arith, lit<}
use Rattle.walrus_base.specs.Operators.{Functions}
use Rattle.walrus_code_tests.proofs.operators.is_named.Goals as goal

pub push_func-requires-clause-is_new : goal.push_func-requires-clause-is_new
push_func-requires-clause-is_new c = rw (c.new-ids.ensures Functions) (λ found. absurd (omega (arith, found.1)))

pub push_func-requires-clause-room : goal.push_func-requires-clause-room
push_func-requires-clause-room c = rw (c.new-ids.ensures Functions) (lit< tt)
