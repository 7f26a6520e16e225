use Rattle.std.proofs.Common.{ap}
use Rattle.walrus.specs.Base.Operators.{function_item}
use Rattle.walrus_tools.specs.ItemMeaning.{by_index}
use Rattle.walrus_tools.proofs.item_meaning.item_meant.Goals as goal

pub returns-in-Ok : goal.returns-in-Ok
returns-in-Ok c = by_index c.in-Ok.index c.in-Ok.ensures.value.0 c.in_ok-function_at.ensures.1 (ap function_item c.in_ok-function_at.ensures.0)
