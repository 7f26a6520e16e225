use Rattle.std.proofs.Common.{arith}
use Rattle.std.proofs.lemmas.Result.{err_from_is_err_and}
use Rattle.wasm_forms.proofs.RowTurns.{refused_at}
use Rattle.wasm_writer.specs.Spelling.{tag_bytes}
use Rattle.wasm_writer.proofs.Listed.{written_more}
use Rattle.wasm_writer.proofs.tag.write_each.Goals as goal

pub tags-preserved : goal.tags-preserved
tags-preserved c = record {
  written = written_more tag_bytes c.args.tags.now c.tags.tag-index _ c.args.to.now.items c.tags.to.items c.write_tag.new.to.items c.tags-test.true c.tags.invariant.written c.in_ok-write_tag.ensures.adds.0;
  room = omega (arith, c.in_ok-write_tag.ensures.room);
}

pub returns-in_err-write_tag-clause-room : goal.returns-in_err-write_tag-clause-room
returns-in_err-write_tag-clause-room c =
    let p = err_from_is_err_and c.from_residual.result c.from_residual.ensures.1 in
    rw (p.1, p.2)
    (refused_at tag_bytes c.args.tags.now c.tags.tag-index _ c.in_err-write_tag.field-0.0 c.args.to.now c.tags.to c.write_tag.new.to c.tags-test.true c.tags.invariant.written c.tags.invariant.room c.in_err-write_tag.ensures.room)
