use Rattle.std.proofs.Common.{length, ap, ◌∙◌, arith}
use Rattle.std.proofs.lemmas.Result.{err_from_is_err_and}
use Rattle.wasm_entries.specs.Record.{expression}
use Rattle.wasm_entries.specs.Spelling.{expression_bytes}
use Rattle.wasm_writer.proofs.Lengths.{row_counted, row_sum, row_long}
use Rattle.wasm_writer.proofs.constant.measured_each.Goals as goal

pub returns-in_err-measured_expression : goal.returns-in_err-measured_expression
returns-in_err-measured_expression c =
    let p = err_from_is_err_and c.from_residual.result c.from_residual.ensures.1 in
    rw (p.1, p.2) (row_long (λ e. expression_bytes (expression e)) c.args.expressions.now c.expressions.listed-index c.listed-item.result (expression_bytes c.operators.result.now) c.in_err-measured_expression.field-0.0 c.expressions-test.true c.listed-item.is
    (ap expression_bytes c.operators.ensures) c.in_err-measured_expression.ensures)

pub returns-in_err-total : goal.returns-in_err-total
returns-in_err-total c =
    let p = err_from_is_err_and c.from_residual-in_err-total.result c.from_residual-in_err-total.ensures.1 in
    rw (p.1, p.2) (row_sum (λ e. expression_bytes (expression e)) (Unit {0}) c.args.expressions.now c.expressions.listed-index c.expressions.total c.in_ok-measured_expression.field-0 c.listed-item.result c.in_err-total.field-0.0 c.expressions-test.true c.listed-item.is
    c.expressions.invariant.counted (c.in_ok-measured_expression.ensures.0 ∙ ap (λ l. length (expression_bytes l)) c.operators.ensures) c.in_err-total.ensures)

pub expressions-preserved : goal.expressions-preserved
expressions-preserved c = record {
  counted = row_counted (λ e. expression_bytes (expression e)) c.args.expressions.now c.expressions.listed-index c.expressions.total c.in_ok-measured_expression.field-0 c.in_ok-total.total c.listed-item.result c.expressions-test.true c.listed-item.is
      c.expressions.invariant.counted (c.in_ok-measured_expression.ensures.0 ∙ ap (λ l. length (expression_bytes l)) c.operators.ensures) c.in_ok-total.ensures.0;
  small = omega (arith, c.in_ok-total.ensures.0, c.in_ok-total.ensures.1);
}
