use Rattle.std.proofs.Common.{sym}
use Rattle.walrus_code.specs.Indices.{ids_at}
use Rattle.walrus_constants.proofs.Bytes.{vector_named}
use Rattle.walrus_constants.proofs.read.read_op.Goals as goal

pub returns-in-V128Const : goal.returns-in-V128Const
returns-in-V128Const c = rw c.in-V128Const.is (sym (vector_named (ids_at c.args.indices.now) c.in-V128Const.bytes))
