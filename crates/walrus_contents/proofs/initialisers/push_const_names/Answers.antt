use Rattle.walrus_contents.proofs.ConstNames.{value_put}
use Rattle.walrus_contents.proofs.initialisers.push_const_names.Goals as goal

pub returns-in-Value : goal.returns-in-Value
returns-in-Value c = value_put c.args.to.now _ _ c.in-Value.is
