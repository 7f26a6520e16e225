use Rattle.walrus_base.specs.Arena.{slots}
use Rattle.walrus_items.specs.Imports.{import_value, is_function_of}
use Rattle.walrus_items.proofs.SeenLemmas.{first-seen}
use Rattle.walrus_items.proofs.imports.«Items+ImportKey+Import».get_func.Goals as goal

pub loop-import-init : goal.loop-import-init
loop-import-init c = (tt, tt, rw (c.into_iter-import-iterator.ensures.into_iter_gives, c.iter-import-items.ensures) (first-seen import_value (is_function_of c.args.«module».now c.args.name.now) (slots c.args.self.now.arena)))
