use Rattle.std.proofs.lemmas.Result.{err_from_is_err_and}
use Rattle.wasm_writer.specs.Measuring.{size_with_count}
use Rattle.wasm_writer.proofs.MeasuredSections.{sum_over}
use Rattle.wasm_writer.proofs.measuring.bodies_len.Goals as goal

pub returns-in_err-total : goal.returns-in_err-total
returns-in_err-total c =
    let p = err_from_is_err_and c.from_residual-in_err-total.result c.from_residual-in_err-total.ensures.1 in
    rw (p.1, p.2) (sum_over size_with_count c.args.lengths.now c.bodies.len-index c.bodies.total c.in_ok-body_size.field-0 _ c.in_err-total.field-0.0 c.bodies-test.true c.bodies.invariant.summed c.in_ok-body_size.ensures.0 c.in_err-total.ensures)
