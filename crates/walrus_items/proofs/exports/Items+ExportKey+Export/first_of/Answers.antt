use Rattle.walrus_base.specs.Arena.{slots}
use Rattle.walrus_items.specs.Kinds.{exported}
use Rattle.walrus_items.specs.Exports.{export_value, exports_item}
use Rattle.walrus_items.proofs.SeenLemmas.{first-seen}
use Rattle.walrus_items.proofs.exports.«Items+ExportKey+Export».first_of.Goals as goal

pub loop-export-init : goal.loop-export-init
loop-export-init c = (tt, tt, rw (c.into_iter-export-iterator.ensures.into_iter_gives, c.iter-export-items.ensures) (first-seen export_value (exports_item (exported c.args.item)) (slots c.args.self.now.arena)))
