use Rattle.walrus_bodies.proofs.AtMarks.{holds_read}
use Rattle.walrus_bodies.proofs.block_types.read_holds.Goals as goal

pub returns : goal.returns
returns g c =
    holds_read (g.T.FunctionTypes.function_types c.args.types.now) c.args.bytes.now c.in_ok-arg._rest.now c.args.mark c.in_ok-arg.arg c.place_arg.result c.arg_holds.result c.in_ok-arg.ensures c.place_arg.ensures c.arg_holds.ensures
