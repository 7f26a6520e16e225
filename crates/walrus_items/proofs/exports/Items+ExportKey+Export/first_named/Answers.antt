use Rattle.walrus_base.specs.Arena.{slots}
use Rattle.walrus_items.specs.Exports.{export_value, is_named}
use Rattle.walrus_items.proofs.SeenLemmas.{first-seen}
use Rattle.walrus_items.proofs.exports.«Items+ExportKey+Export».first_named.Goals as goal

pub loop-id-init : goal.loop-id-init
loop-id-init c = (tt, tt, rw (c.into_iter-id-iterator.ensures.into_iter_gives, c.iter-id-items.ensures) (first-seen export_value (is_named c.args.name.now) (slots c.args.self.now.arena)))
