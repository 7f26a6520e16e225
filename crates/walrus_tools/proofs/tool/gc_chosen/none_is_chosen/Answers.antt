use Rattle.walrus_tools.proofs.NoneChosen.{none_runs}
use Rattle.walrus_tools.proofs.tool.gc_chosen.none_is_chosen.Goals as goal

pub returns : goal.returns
returns c = none_runs
