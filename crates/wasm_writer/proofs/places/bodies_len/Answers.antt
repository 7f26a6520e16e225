use Rattle.std.proofs.Common.{take_all, subst, arith}
use Rattle.std.proofs.lemmas.Result.{err_from_is_err_and}
use Rattle.wasm_forms.specs.Writing.{EachFits}
use Rattle.wasm_writer.proofs.Lengths.{row_counted_at, row_sum_at, row_full}
use Rattle.wasm_writer.proofs.Ranges.{spelled_body, BodyFits, body_over, body_fits}
use Rattle.wasm_writer.proofs.places.bodies_len.Goals as goal

pub returns-in_err-measured_block : goal.returns-in_err-measured_block
returns-in_err-measured_block c =
    let p = err_from_is_err_and c.from_residual.result c.from_residual.ensures.1 in
    rw (p.1, p.2) (body_over c.args.bodies.now c.bodies.body-index _ c.in_err-measured_block.field-0.0 c.bodies-test.true c.in_err-measured_block.ensures)

pub returns-in_err-total : goal.returns-in_err-total
returns-in_err-total c =
    let p = err_from_is_err_and c.from_residual-in_err-total.result c.from_residual-in_err-total.ensures.1 in
    rw (p.1, p.2)
    (row_sum_at spelled_body (EachFits BodyFits c.args.bodies.now) c.args.bodies.now c.bodies.body-index c.bodies.total c.in_ok-measured_block.field-0 _ c.in_err-total.field-0.0 c.bodies-test.true c.bodies.invariant.counted
    c.in_ok-measured_block.ensures.0 c.in_err-total.ensures)

pub bodies-preserved : goal.bodies-preserved
bodies-preserved c = record {
  counted = row_counted_at spelled_body c.args.bodies.now c.bodies.body-index c.bodies.total c.in_ok-measured_block.field-0 c.in_ok-total.total _ c.bodies-test.true c.bodies.invariant.counted c.in_ok-measured_block.ensures.0 c.in_ok-total.ensures.0;
  small = omega (arith, c.in_ok-total.ensures.0, c.in_ok-total.ensures.1);
  fit = body_fits c.args.bodies.now c.bodies.body-index _ c.bodies-test.true c.bodies.invariant.fit c.in_ok-measured_block.ensures.2;
}

pub returns : goal.returns
returns c =
    let e = take_all c.bodies.body-index c.args.bodies.now c.bodies-test.false in
    (row_full spelled_body c.args.bodies.now c.bodies.body-index c.bodies.total c.bodies-test.false c.bodies.invariant.counted, c.bodies.invariant.small, subst (EachFits BodyFits) e c.bodies.invariant.fit)
