use Rattle.std.proofs.Common.{take_all, subst, arith}
use Rattle.std.proofs.lemmas.Result.{err_from_is_err_and}
use Rattle.wasm_forms.proofs.Items.{each_push}
use Rattle.wasm_forms.specs.Writing.{EachFits}
use Rattle.wasm_entries.specs.Record.{group}
use Rattle.wasm_entries.specs.TypeSpelling.{group_bytes, GroupFits}
use Rattle.wasm_writer.proofs.Lengths.{row_counted, row_item, row_sum, row_full}
use Rattle.wasm_writer.proofs.composite.measured_each.Goals as goal

pub returns-in_err-measured_group : goal.returns-in_err-measured_group
returns-in_err-measured_group c =
    let p = err_from_is_err_and c.from_residual.result c.from_residual.ensures.1 in
    rw (p.1, p.2) (row_item (λ g. group_bytes (group g)) (λ g. GroupFits (group g)) c.args.groups.now c.groups.types-index c.types-item.result c.in_err-measured_group.field-0.0 c.groups-test.true c.types-item.is c.in_err-measured_group.ensures)

pub returns-in_err-total : goal.returns-in_err-total
returns-in_err-total c =
    let p = err_from_is_err_and c.from_residual-in_err-total.result c.from_residual-in_err-total.ensures.1 in
    rw (p.1, p.2) (row_sum (λ g. group_bytes (group g)) (EachFits (λ g. GroupFits (group g)) c.args.groups.now) c.args.groups.now c.groups.types-index c.groups.total c.in_ok-measured_group.field-0 c.types-item.result c.in_err-total.field-0.0 c.groups-test.true c.types-item.is c.groups.invariant.counted c.in_ok-measured_group.ensures.0 c.in_err-total.ensures)

pub groups-preserved : goal.groups-preserved
groups-preserved c = record {
  counted = row_counted (λ g. group_bytes (group g)) c.args.groups.now c.groups.types-index c.groups.total c.in_ok-measured_group.field-0 c.in_ok-total.total c.types-item.result c.groups-test.true c.types-item.is c.groups.invariant.counted c.in_ok-measured_group.ensures.0 c.in_ok-total.ensures.0;
  small = omega (arith, c.in_ok-total.ensures.0, c.in_ok-total.ensures.1);
  fit = each_push (λ g. GroupFits (group g)) c.args.groups.now c.groups.types-index c.types-item.result c.groups-test.true c.types-item.is c.groups.invariant.fit c.in_ok-measured_group.ensures.2;
}

pub returns : goal.returns
returns c =
    let e = take_all c.groups.types-index c.args.groups.now c.groups-test.false in
    (row_full (λ g. group_bytes (group g)) c.args.groups.now c.groups.types-index c.groups.total c.groups-test.false c.groups.invariant.counted, c.groups.invariant.small, subst (EachFits (λ g. GroupFits (group g))) e c.groups.invariant.fit)
