use Rattle.std.proofs.Common.{arith}
use Rattle.std.proofs.lemmas.Result.{err_from_is_err_and}
use Rattle.wasm_entries.specs.Spelling.{const_bytes}
use Rattle.wasm_forms.proofs.RowTurns.{written_at, refused_at}
use Rattle.wasm_forms.proofs.Keeping.{keeps_behind}
use Rattle.wasm_entries.proofs.Steps.{keeps_put}
use Rattle.wasm_entries.proofs.operator.write_operators.Goals as goal

pub operators-preserved : goal.operators-preserved
operators-preserved c = record {
  written = written_at const_bytes c.args.operators.now c.operators.operator-index _ c.args.to.now.items c.operators.to.items c.write_const.new.to.items c.operators-test.true c.operators.invariant.written c.in_ok-write_const.ensures.adds.0;
  room = omega (arith, c.in_ok-write_const.ensures.room);
}

pub returns-in_err-write_const-clause-room : goal.returns-in_err-write_const-clause-room
returns-in_err-write_const-clause-room c =
    let p = err_from_is_err_and c.from_residual.result c.from_residual.ensures.1 in
    rw (p.1, p.2)
    (refused_at const_bytes c.args.operators.now c.operators.operator-index _ c.in_err-write_const.field-0.0 c.args.to.now c.operators.to c.write_const.new.to c.operators-test.true c.operators.invariant.written c.operators.invariant.room
    c.in_err-write_const.ensures.room)

pub returns-in_err-write_const-clause-keeps : goal.returns-in_err-write_const-clause-keeps
returns-in_err-write_const-clause-keeps c = keeps_behind c.args.to.now.items c.operators.to.items c.write_const.new.to.items _ c.operators.invariant.written c.in_err-write_const.ensures.keeps

pub returns-clause-keeps : goal.returns-clause-keeps
returns-clause-keeps c = keeps_put c.args.to.now.items c.operators.to.items _ c.operators.invariant.written
