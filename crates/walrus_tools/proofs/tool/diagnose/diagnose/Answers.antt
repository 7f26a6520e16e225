use Rattle.walrus.specs.Wanted.{config_wanted}
use Rattle.walrus_tools.proofs.FaultEnds.{found_so}
use Rattle.walrus_tools.proofs.tool.diagnose.diagnose.Goals as goal

pub returns : goal.returns
returns c = found_so (config_wanted c.args.wanted) c.args.bytes.now c.in_ok-first_fault.field-0 c.in_ok-first_fault.ensures
