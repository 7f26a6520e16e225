use Rattle.std.proofs.Common.{◌∙◌, ap, sym, Some}
use Rattle.walrus_code.specs.Indices.{index_of}
use Rattle.walrus_constants.proofs.Bytes.{vector_named, vector_plain}
use Rattle.walrus_constants.proofs.write.raw_op.Goals as goal

pub returns-in-V128Const-clause-indexed : goal.returns-in-V128Const-clause-indexed
returns-in-V128Const-clause-indexed c = rw c.in-V128Const.is (vector_named (index_of c.args.indices.now) c.in-V128Const.bytes ∙ ap Some (sym c.raw_vector.ensures.operator), vector_plain c.in-V128Const.bytes)
