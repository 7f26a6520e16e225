use Rattle.std.proofs.Common.{take_all, subst, arith}
use Rattle.std.proofs.lemmas.Result.{err_from_is_err_and}
use Rattle.wasm_forms.proofs.Items.{each_push}
use Rattle.wasm_forms.specs.Writing.{EachFits}
use Rattle.wasm_writer.proofs.Lengths.{row_counted, row_item, row_sum, row_full}
use Rattle.wasm_writer.proofs.vector.measured_row.Goals as goal

pub returns-in_err-measured : goal.returns-in_err-measured
returns-in_err-measured g c =
    let p = err_from_is_err_and c.from_residual.result c.from_residual.ensures.1 in
    rw (p.1, p.2) (row_item g.E.Written.spelled g.E.Written.Fits c.args.items.now c.items.item-index c.item-item.result c.in_err-measured.field-0.0 c.items-test.true c.item-item.is c.in_err-measured.ensures)

pub returns-in_err-total : goal.returns-in_err-total
returns-in_err-total g c =
    let p = err_from_is_err_and c.from_residual-in_err-total.result c.from_residual-in_err-total.ensures.1 in
    rw (p.1, p.2) (row_sum g.E.Written.spelled (EachFits g.E.Written.Fits c.args.items.now) c.args.items.now c.items.item-index c.items.total c.in_ok-measured.field-0 c.item-item.result c.in_err-total.field-0.0 c.items-test.true c.item-item.is c.items.invariant.counted c.in_ok-measured.ensures.0 c.in_err-total.ensures)

pub items-preserved : goal.items-preserved
items-preserved g c = record {
  counted = row_counted g.E.Written.spelled c.args.items.now c.items.item-index c.items.total c.in_ok-measured.field-0 c.in_ok-total.total c.item-item.result c.items-test.true c.item-item.is c.items.invariant.counted c.in_ok-measured.ensures.0 c.in_ok-total.ensures.0;
  small = omega (arith, c.in_ok-total.ensures.0, c.in_ok-total.ensures.1);
  fit = each_push g.E.Written.Fits c.args.items.now c.items.item-index c.item-item.result c.items-test.true c.item-item.is c.items.invariant.fit c.in_ok-measured.ensures.2;
}

pub returns : goal.returns
returns g c =
    let e = take_all c.items.item-index c.args.items.now c.items-test.false in
    (row_full g.E.Written.spelled c.args.items.now c.items.item-index c.items.total c.items-test.false c.items.invariant.counted, c.items.invariant.small, subst (EachFits g.E.Written.Fits) e c.items.invariant.fit)
