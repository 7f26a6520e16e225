use Rattle.walrus_bodies.proofs.AtMarks.{no_block}
use Rattle.walrus_bodies.proofs.block_types.arg_holds.Goals as goal

pub returns-in_default : goal.returns-in_default
returns-in_default g c = no_block (g.T.FunctionTypes.function_types c.args.types.now) c.args.arg c.in_default.not-Block
