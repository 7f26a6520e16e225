use Rattle.std.proofs.Common.{◌∙◌, sym}
use Rattle.walrus_base.proofs.FullSlots.{full_items}
use Rattle.walrus_base.proofs.locals.ModuleLocals.iter.Goals as goal

pub returns : goal.returns
returns c = c.as_slice.ensures.value ∙ sym (full_items c.args.self.now.places.items)
