use Rattle.walrus_base.proofs.ShapesKept.{adding_keeps}
use Rattle.walrus_base.proofs.law.adding_keeps_shapes.Goals as goal

pub returns : goal.returns
returns c = adding_keeps
