use Rattle.std.proofs.Common.{List, map, ap, refl, arith}
use Rattle.std.specs.Global.{Vec}
use Rattle.std.proofs.lemmas.List.{drop_all}
use Rattle.std.proofs.lemmas.List.Elements.{All-nil}
use Rattle.std.proofs.lemmas.Result.{err_from_is_err_and}
use Rattle.wasm_entries.specs.Record.{expression}
use Rattle.wasm_entries.specs.Spelling.{ExpressionStands}
use Rattle.wasm_entries.specs.declared.record.RawExpression.{RawExpression}
use Rattle.walrus_base.specs.ConstOps.{const_ops}
use Rattle.walrus_code.specs.Indices.{index_of}
use Rattle.walrus_model.specs.Constants.{consts_of}
use Rattle.walrus_constants.proofs.Listed.{next_of, mapped_push, all_pushed, written_begins, written_next, written_refused, written_all}
use Rattle.walrus_constants.proofs.write.raw_consts.Goals as goal

pub loop-expr-init : goal.loop-expr-init
loop-expr-init c = record {
  indexed = written_begins (index_of c.args.indices.now) (map const_ops c.args.all.now) _ (ap (λ (l : List RawExpression). map consts_of (map expression l)) c.in_ok-raw.ensures.items);
  spelled = rw c.in_ok-raw.ensures.items (All-nil ExpressionStands);
}

pub loop-expr-preserved : goal.loop-expr-preserved
loop-expr-preserved c = record {
  indexed = written_next (index_of c.args.indices.now) (map const_ops c.args.all.now) _ _ (map consts_of (map expression c.loop-expr.raw.items)) _ _ _
      (next_of const_ops c.args.all.now c.loop-expr.expr-index c.expr-item.result _ c.loop-expr-test.true c.expr-item.is refl)
      c.in_ok-raw_const.ensures.indexed
      (mapped_push consts_of (map expression c.loop-expr.raw.items) _ _ (mapped_push expression c.loop-expr.raw.items _ _ c.in_ok-push.ensures.items))
      c.loop-expr.invariant.indexed;
  spelled = all_pushed ExpressionStands expression c.loop-expr.raw.items _ _ c.in_ok-push.ensures.items c.loop-expr.invariant.spelled c.in_ok-raw_const.ensures.spelled;
}

pub returns-in_err-raw_const-clause-indexed : goal.returns-in_err-raw_const-clause-indexed
returns-in_err-raw_const-clause-indexed c =
    let p = err_from_is_err_and c.from_residual-in_err-raw_const.result c.from_residual-in_err-raw_const.ensures.1 in
    rw (p.1, p.2) (written_refused (index_of c.args.indices.now) {A = RawExpression} {B = Vec RawExpression} (λ raw. consts_of (expression raw)) (λ raw. map consts_of (map expression raw.items)) (map const_ops c.args.all.now) _ _ _ _ _
    (next_of const_ops c.args.all.now c.loop-expr.expr-index c.expr-item.result _ c.loop-expr-test.true c.expr-item.is refl)
    c.loop-expr.invariant.indexed c.in_err-raw_const.ensures.indexed)

pub returns-clause-indexed : goal.returns-clause-indexed
returns-clause-indexed c =
    written_all (index_of c.args.indices.now) (map const_ops c.args.all.now) _ _ (ap (map const_ops) (drop_all c.loop-expr.expr-index c.args.all.now (omega (arith, c.loop-expr-test.false)))) c.loop-expr.invariant.indexed
