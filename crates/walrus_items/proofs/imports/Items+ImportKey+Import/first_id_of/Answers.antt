use Rattle.walrus_base.specs.Arena.{slots}
use Rattle.walrus_items.specs.Kinds.{imported}
use Rattle.walrus_items.specs.Imports.{import_value, imports_item}
use Rattle.walrus_items.proofs.SeenLemmas.{first-seen}
use Rattle.walrus_items.proofs.imports.«Items+ImportKey+Import».first_id_of.Goals as goal

pub loop-at-init : goal.loop-at-init
loop-at-init c = (tt, tt, rw (c.into_iter-at-iterator.ensures.into_iter_gives, c.iter-at-items.ensures) (first-seen import_value (imports_item (imported c.args.kind)) (slots c.args.self.now.arena)))
