use Rattle.walrus_reading.specs.Shown.{shown}
use Rattle.walrus_reading.proofs.Filled.{one_more_function}
use Rattle.walrus_reading.proofs.synthetic.fill_names.Goals as goal

pub functions-preserved : goal.functions-preserved
functions-preserved c = one_more_function c.args.starts.now c.functions.function (shown c.args.contents.now) (shown c.functions.contents) (shown c.fill_one.new.contents) c.functions.invariant c.in_ok-fill_one.ensures.filled
