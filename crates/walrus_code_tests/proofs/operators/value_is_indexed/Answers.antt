use Rattle.walrus_base.specs.Operators.{Types}
use Rattle.walrus_code_tests.proofs.operators.value_is_indexed.Goals as goal

pub push_type-requires-clause-is_new : goal.push_type-requires-clause-is_new
push_type-requires-clause-is_new c = c.new-indices.ensures.indices Types _
