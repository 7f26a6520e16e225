use Rattle.std.proofs.Common.{refl}
use Rattle.walrus_examples.proofs.CountEnds.{both_steps}
use Rattle.walrus_examples.proofs.examples.count_calls.count_all.Goals as goal

pub returns : goal.returns
returns g c = both_steps c.args.from.now c.args.name.now c.args.module.now c.import_one.new.module _ c.in_ok-called.called c.in_ok-called.ensures refl c.call_all.result c.call_all.ensures
