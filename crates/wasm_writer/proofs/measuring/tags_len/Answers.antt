use Rattle.std.proofs.Common.{arith}
use Rattle.std.proofs.lemmas.Result.{err_from_is_err_and}
use Rattle.wasm_writer.proofs.Lengths.{row_counted_at, row_sum_at}
use Rattle.wasm_writer.specs.Spelling.{tag_bytes}
use Rattle.wasm_writer.proofs.measuring.tags_len.Goals as goal

pub returns-in_err-total : goal.returns-in_err-total
returns-in_err-total c =
    let p = err_from_is_err_and c.from_residual.result c.from_residual.ensures.1 in
    rw (p.1, p.2) (row_sum_at tag_bytes (Unit {0}) c.args.tags.now c.tags.tag-index c.tags.total c.tag_len.result _ c.in_err-total.field-0.0 c.tags-test.true c.tags.invariant.counted c.tag_len.ensures.written c.in_err-total.ensures)

pub tags-preserved : goal.tags-preserved
tags-preserved c = record {
  counted = row_counted_at tag_bytes c.args.tags.now c.tags.tag-index c.tags.total c.tag_len.result c.in_ok-total.total _ c.tags-test.true c.tags.invariant.counted c.tag_len.ensures.written c.in_ok-total.ensures.0;
  small = omega (arith, c.in_ok-total.ensures.0, c.in_ok-total.ensures.1);
}
