use Rattle.walrus_base.specs.Operators.{Functions}
use Rattle.walrus_item_tests.proofs.ir.index_of_function.Goals as goal

pub push_func-requires-clause-is_new : goal.push_func-requires-clause-is_new
push_func-requires-clause-is_new c = c.new-indices.ensures.indices Functions _
