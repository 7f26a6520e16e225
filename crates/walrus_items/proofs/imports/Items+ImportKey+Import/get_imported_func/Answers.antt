use Rattle.walrus_base.specs.Id.{place}
use Rattle.walrus_base.specs.Operators.{function_item}
use Rattle.walrus_base.specs.Arena.{slots}
use Rattle.walrus_items.specs.Imports.{import_value, imports_item}
use Rattle.walrus_items.proofs.SeenLemmas.{first-seen}
use Rattle.walrus_items.proofs.imports.«Items+ImportKey+Import».get_imported_func.Goals as goal

pub loop-import-init : goal.loop-import-init
loop-import-init c = (tt, tt, rw (c.into_iter-import-iterator.ensures.into_iter_gives, c.iter-import-items.ensures) (first-seen import_value (imports_item (function_item (place c.args.id))) (slots c.args.self.now.arena)))
