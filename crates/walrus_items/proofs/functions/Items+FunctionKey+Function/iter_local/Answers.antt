use Rattle.std.proofs.Common.{sym, ap}
use Rattle.walrus_base.specs.Arena.{slots}
use Rattle.walrus_items.specs.Functions.{function_value, local_functions}
use Rattle.walrus_items.proofs.SeenLemmas.{entries-seen}
use Rattle.walrus_items.proofs.functions.«Items+FunctionKey+Function».iter_local.Goals as goal

pub returns : goal.returns
returns c = rw c.iter.ensures (sym (ap local_functions (entries-seen function_value (slots c.args.self.now.arena))))
