use Rattle.std.proofs.Common.{ap, subst, List, ◌++◌, ◌∙◌, arith}
use Rattle.std.specs.Prelude.{Err}
use Rattle.std.proofs.lemmas.Result.{err_from_is_err_and}
use Rattle.wasm_forms.specs.Writing.{TakesRoom}
use Rattle.wasm_entries.specs.declared.record.RawConst.{RawConst}
use Rattle.wasm_entries.specs.Record.{expression}
use Rattle.wasm_entries.specs.Spelling.{expression_bytes}
use Rattle.wasm_forms.proofs.RowTurns.{written_seen, refused_seen}
use Rattle.wasm_forms.proofs.Keeping.{keeps_behind}
use Rattle.wasm_entries.proofs.Steps.{keeps_put}
use Rattle.wasm_entries.proofs.operator.write_each.Goals as goal

pub expressions-preserved : goal.expressions-preserved
expressions-preserved c = record {
  written = written_seen expression_bytes expression c.args.expressions.now c.expressions.listed-index c.listed-item.result c.args.to.now.items c.expressions.to.items c.write_expression.new.to.items c.expressions-test.true c.listed-item.is c.expressions.invariant.written
      (c.in_ok-write_expression.ensures.adds.0 ∙ ap (λ l. c.expressions.to.items ++ expression_bytes l) c.operators.ensures);
  room = omega (arith, c.in_ok-write_expression.ensures.room);
}

pub returns-in_err-write_expression-clause-room : goal.returns-in_err-write_expression-clause-room
returns-in_err-write_expression-clause-room c =
    let p = err_from_is_err_and c.from_residual.result c.from_residual.ensures.1 in
    let room = subst (λ (l : List RawConst). TakesRoom {X = Unit {0}} (Err c.in_err-write_expression.field-0.0) c.expressions.to c.write_expression.new.to (expression_bytes l)) c.operators.ensures c.in_err-write_expression.ensures.room in
    rw (p.1, p.2)
    (refused_seen expression_bytes expression c.args.expressions.now c.expressions.listed-index c.listed-item.result c.in_err-write_expression.field-0.0 c.args.to.now c.expressions.to c.write_expression.new.to c.expressions-test.true c.listed-item.is
    c.expressions.invariant.written c.expressions.invariant.room room)

pub returns-in_err-write_expression-clause-keeps : goal.returns-in_err-write_expression-clause-keeps
returns-in_err-write_expression-clause-keeps c = keeps_behind c.args.to.now.items c.expressions.to.items c.write_expression.new.to.items _ c.expressions.invariant.written c.in_err-write_expression.ensures.keeps

pub returns-clause-keeps : goal.returns-clause-keeps
returns-clause-keeps c = keeps_put c.args.to.now.items c.expressions.to.items _ c.expressions.invariant.written
