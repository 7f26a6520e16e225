use Rattle.walrus_base.specs.Operators.{Globals}
use Rattle.walrus_code_tests.proofs.constants.items_are_written.Goals as goal

pub push_global-requires-clause-is_new : goal.push_global-requires-clause-is_new
push_global-requires-clause-is_new c = c.new-indices.ensures.indices Globals _
