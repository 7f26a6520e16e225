use Rattle.walrus_edits.proofs.TellSteps.{adds_one}
use Rattle.walrus_edits.proofs.records.tell.Goals as goal

pub returns : goal.returns
returns g c = adds_one (Unit {0}) c.write_told.result c.args.to.now.items c.write_told.new.to.items _ c.write_told.ensures
