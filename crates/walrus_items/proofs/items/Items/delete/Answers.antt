use Rattle.walrus_base.specs.Arena.{slots}
use Rattle.walrus_base.specs.Id.{place}
use Rattle.walrus_items.proofs.SeenLemmas.{seen-left}
use Rattle.walrus_items.proofs.items.Items.delete.Goals as goal

pub returns : goal.returns
returns g c = seen-left g.T.Item.value (slots c.args.self.now.arena) (slots c.delete.new.self) (place c.args.id) c.delete.ensures.left
