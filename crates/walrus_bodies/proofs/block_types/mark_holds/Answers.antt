use Rattle.walrus_bodies.proofs.AtMarks.{holds_at}
use Rattle.walrus_bodies.proofs.block_types.mark_holds.Goals as goal

pub returns : goal.returns
returns g c = holds_at (g.T.FunctionTypes.function_types c.args.types.now) c.args.bytes.now c.args.mark c.if-mark-eq-MARK_BLOCK.false
