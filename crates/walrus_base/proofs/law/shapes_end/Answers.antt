use Rattle.walrus_base.proofs.ShapesEnd.{shapes_of_all}
use Rattle.walrus_base.proofs.law.shapes_end.Goals as goal

pub returns : goal.returns
returns c = shapes_of_all
