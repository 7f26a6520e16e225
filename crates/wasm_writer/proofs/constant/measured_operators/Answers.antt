use Rattle.std.proofs.Common.{arith}
use Rattle.std.proofs.lemmas.Result.{err_from_is_err_and}
use Rattle.wasm_entries.specs.Spelling.{const_bytes}
use Rattle.wasm_writer.proofs.Lengths.{row_counted_at, row_sum_at}
use Rattle.wasm_writer.proofs.constant.measured_operators.Goals as goal

pub returns-in_err-total : goal.returns-in_err-total
returns-in_err-total c =
    let p = err_from_is_err_and c.from_residual.result c.from_residual.ensures.1 in
    rw (p.1, p.2) (row_sum_at const_bytes (Unit {0}) c.args.operators.now c.operators.operator-index c.operators.total c.const_len.result _ c.in_err-total.field-0.0 c.operators-test.true c.operators.invariant.counted c.const_len.ensures.written c.in_err-total.ensures)

pub operators-preserved : goal.operators-preserved
operators-preserved c = record {
  counted = row_counted_at const_bytes c.args.operators.now c.operators.operator-index c.operators.total c.const_len.result c.in_ok-total.total _ c.operators-test.true c.operators.invariant.counted c.const_len.ensures.written c.in_ok-total.ensures.0;
  small = omega (arith, c.in_ok-total.ensures.0, c.in_ok-total.ensures.1);
}
