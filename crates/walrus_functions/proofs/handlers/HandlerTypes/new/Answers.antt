use Rattle.std.proofs.Common.{length}
use Rattle.walrus_base.specs.Arena.{item_at}
use Rattle.walrus_functions.specs.Known.{IsOfTypes}
use Rattle.walrus_functions.proofs.AlikeLemmas.{none_held}
use Rattle.walrus_functions.proofs.handlers.HandlerTypes.new.Goals as goal

pub returns : goal.returns
unfolding IsOfTypes
returns c = λ slots. none_held (length slots) (item_at slots) slots _ c.new.ensures.empty c.new-2.ensures c.new-3.ensures
