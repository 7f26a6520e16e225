use Rattle.std.proofs.Common.{sym}
use Rattle.walrus_base.specs.Arena.{slots}
use Rattle.walrus_items.proofs.SeenLemmas.{entries-seen}
use Rattle.walrus_items.proofs.items.Items.iter_entries.Goals as goal

pub returns : goal.returns
returns g c = rw c.iter.ensures (sym (entries-seen g.T.Item.value (slots c.args.self.now.arena)))
