use Rattle.std.proofs.Common.{List, [], ◌∷◌, map, subst}
use Rattle.wasm_entries.specs.Record.{expression}
use Rattle.walrus_base.specs.Operators.{Op}
use Rattle.walrus_base.specs.ConstOps.{const_op}
use Rattle.walrus_base.specs.declared.const_expr.ConstOp.{ConstOp}
use Rattle.walrus_code.specs.Indices.{index_of}
use Rattle.walrus_model.specs.Constants.{consts_of}
use Rattle.walrus_constants.specs.Written.{IndexesConst}
use Rattle.walrus_constants.proofs.write.raw_const.Goals as goal

pub returns-in-Value-clause-indexed : goal.returns-in-Value-clause-indexed
returns-in-Value-clause-indexed c = rw c.in-Value.is (subst (λ (o : Op). IndexesConst (λ raw. consts_of (expression raw)) (index_of c.args.indices.now) (o ∷ []) c.raw_alone.result) c.op_of_value.ensures c.raw_alone.ensures.indexed)

pub returns-in-RefNull-clause-indexed : goal.returns-in-RefNull-clause-indexed
returns-in-RefNull-clause-indexed c = rw c.in-RefNull.is c.raw_alone-in-RefNull.ensures.indexed

pub returns-in-Extended-clause-indexed : goal.returns-in-Extended-clause-indexed
returns-in-Extended-clause-indexed c = rw c.in-Extended.is (subst (λ (ops : List ConstOp). IndexesConst (λ raw. consts_of (expression raw)) (index_of c.args.indices.now) (map const_op ops) c.raw_ops.result) c.as_slice.ensures.value c.raw_ops.ensures.indexed)
