use Rattle.walrus_base.specs.Arena.{slots}
use Rattle.walrus_items.specs.Functions.{function_value, is_called}
use Rattle.walrus_items.proofs.SeenLemmas.{first-seen}
use Rattle.walrus_items.proofs.functions.«Items+FunctionKey+Function».by_name.Goals as goal

pub loop-id-init : goal.loop-id-init
loop-id-init c = (tt, tt, rw (c.into_iter-id-iterator.ensures.into_iter_gives, c.iter-id-items.ensures) (first-seen function_value (is_called c.args.name.now) (slots c.args.self.now.arena)))
