use Rattle.std.proofs.Common.{rules, ◌≢◌, length, Ok, Err}
use Rattle.std.specs.Global.{Vec}
use Rattle.wasm_entries.specs.declared.record.RawConst.{RawConst}
use Rattle.std.proofs.lemmas.Result.{err_from_is_err_and}
use Rattle.walrus_base.specs.ConstOps.{const_op}
use Rattle.walrus_code.specs.Indices.{index_of}
use Rattle.walrus_model.specs.Constants.{consts_of}
use Rattle.walrus_constants.proofs.Causes.{some_made, const_written, const_stands}
use Rattle.walrus_constants.proofs.write.raw_ops.Goals as goal

pub returns-in_err-raw_each-clause-indexed : goal.returns-in_err-raw_each-clause-indexed
returns-in_err-raw_each-clause-indexed c =
    let n : length c.args.ops.now ≢ 0 = search rules in
    let p = err_from_is_err_and c.from_residual.result c.from_residual.ensures.1 in
    rw (p.1, p.2) (const_written (λ (raw : Vec RawConst). consts_of raw.items) (index_of c.args.indices.now) _ (Err c.in_err-raw_each.field-0.0) (some_made const_op c.args.ops.now n) c.in_err-raw_each.ensures.indexed)

pub returns-clause-indexed : goal.returns-clause-indexed
returns-clause-indexed c =
    let n : length c.args.ops.now ≢ 0 = search rules in
    const_written (λ (raw : Vec RawConst). consts_of raw.items) (index_of c.args.indices.now) _ (Ok c.in_ok-raw_each.field-0) (some_made const_op c.args.ops.now n) c.in_ok-raw_each.ensures.indexed

pub returns-clause-spelled : goal.returns-clause-spelled
returns-clause-spelled c =
    let n : length c.args.ops.now ≢ 0 = search rules in
    const_stands (λ (raw : Vec RawConst). raw.items) (index_of c.args.indices.now) _ (Ok c.in_ok-raw_each.field-0) (some_made const_op c.args.ops.now n) c.in_ok-raw_each.ensures.indexed c.in_ok-raw_each.ensures.spelled
