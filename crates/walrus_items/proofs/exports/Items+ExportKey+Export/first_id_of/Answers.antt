use Rattle.walrus_base.specs.Arena.{slots}
use Rattle.walrus_items.specs.Kinds.{exported}
use Rattle.walrus_items.specs.Exports.{export_value, exports_item}
use Rattle.walrus_items.proofs.SeenLemmas.{first-seen}
use Rattle.walrus_items.proofs.exports.«Items+ExportKey+Export».first_id_of.Goals as goal

pub loop-at-init : goal.loop-at-init
loop-at-init c = (tt, tt, rw (c.into_iter-at-iterator.ensures.into_iter_gives, c.iter-at-items.ensures) (first-seen export_value (exports_item (exported c.args.item)) (slots c.args.self.now.arena)))
