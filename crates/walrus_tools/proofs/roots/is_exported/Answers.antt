use Rattle.walrus.specs.Code.Code.{item_of}
use Rattle.walrus.specs.Items.Exports.{exports}
use Rattle.walrus_tools.proofs.RootLemmas.{not_named}
use Rattle.walrus_tools.proofs.roots.is_exported.Goals as goal

pub returns-in-None : goal.returns-in-None
returns-in-None c = not_named (item_of c.args.item) c.in-None.ensures (exports c.args.all.now)
