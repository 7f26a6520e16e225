use Rattle.walrus_contents.proofs.ConstNames.{vector_named}
use Rattle.walrus_contents.proofs.initialisers.item_of_const.Goals as goal

pub returns-in-V128Const : goal.returns-in-V128Const
returns-in-V128Const c = vector_named _ _ c.in-V128Const.is
