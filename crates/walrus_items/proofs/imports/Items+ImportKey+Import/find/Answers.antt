use Rattle.walrus_base.specs.Arena.{slots}
use Rattle.walrus_items.specs.Imports.{import_value, is_import_of}
use Rattle.walrus_items.proofs.SeenLemmas.{first-seen}
use Rattle.walrus_items.proofs.imports.«Items+ImportKey+Import».find.Goals as goal

pub loop-id-init : goal.loop-id-init
loop-id-init c = (tt, tt, rw (c.into_iter-id-iterator.ensures.into_iter_gives, c.iter-id-items.ensures) (first-seen import_value (is_import_of c.args.«module».now c.args.name.now) (slots c.args.self.now.arena)))
