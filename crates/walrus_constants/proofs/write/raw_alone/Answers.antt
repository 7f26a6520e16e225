use Rattle.std.proofs.Common.{[], ◌∷◌, Ok, Err}
use Rattle.std.proofs.lemmas.Result.{err_from_is_err_and}
use Rattle.walrus_base.specs.ConstOps.{const_op}
use Rattle.walrus_code.specs.Indices.{index_of}
use Rattle.walrus_model.specs.Constants.{const_of}
use Rattle.walrus_constants.proofs.Causes.{alone_written, const_written}
use Rattle.walrus_constants.proofs.write.raw_alone.Goals as goal

pub returns-in_err-raw_op-clause-indexed : goal.returns-in_err-raw_op-clause-indexed
returns-in_err-raw_op-clause-indexed c =
    let p = err_from_is_err_and c.from_residual.result c.from_residual.ensures.1 in
    let names = index_of c.args.indices.now in
    rw (p.1, p.2) (const_written (λ x. const_of x ∷ []) names (const_op c.args.op ∷ []) (Err c.in_err-raw_op.field-0.0) (λ e. absurd cc)
    (alone_written const_of names (const_op c.args.op) (Err c.in_err-raw_op.field-0.0) c.in_err-raw_op.ensures.indexed))

pub returns-clause-indexed : goal.returns-clause-indexed
returns-clause-indexed c =
    let names = index_of c.args.indices.now in
    const_written (λ x. const_of x ∷ []) names (const_op c.args.op ∷ []) (Ok c.in_ok-raw_op.field-0) (λ e. absurd cc)
    (alone_written const_of names (const_op c.args.op) (Ok c.in_ok-raw_op.field-0) c.in_ok-raw_op.ensures.indexed)
