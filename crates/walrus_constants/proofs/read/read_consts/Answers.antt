use Rattle.std.proofs.Common.{◌≡◌, true, map, ap, arith, List}
use Rattle.std.specs.Global.{Vec}
use Rattle.std.proofs.lemmas.List.{drop_all}
use Rattle.std.proofs.lemmas.List.Elements.{All-nil, All-push}
use Rattle.std.proofs.lemmas.Result.{err_from_is_err_and}
use Rattle.wasm_entries.specs.Record.{expression}
use Rattle.walrus_base.specs.ConstOps.{const_ops}
use Rattle.walrus_base.specs.declared.const_expr.ConstExpr.{ConstExpr}
use Rattle.walrus_code.specs.Indices.{ids_at}
use Rattle.walrus_model.specs.Constants.{consts_of}
use Rattle.walrus_constants.specs.Named.{named_const}
use Rattle.walrus_constants.specs.Short.{is_short}
use Rattle.walrus_constants.proofs.Listed.{next_of, mapped_push, read_begins, read_next, read_refused, read_all}
use Rattle.walrus_constants.proofs.read.read_consts.Goals as goal

pub loop-one-init : goal.loop-one-init
loop-one-init c = record {
  named = read_begins (map const_ops c.in_ok-found.found.items) _ (ap (map const_ops) c.in_ok-found.ensures.items);
  short = rw c.in_ok-found.ensures.items (All-nil (λ expr. is_short expr ≡ true));
}

pub loop-one-preserved : goal.loop-one-preserved
loop-one-preserved c = record {
  named = read_next (named_const (ids_at c.args.indices.now)) (map const_ops c.loop-one.found.items) _ _ _ _ _ _
      (ap (map consts_of) (next_of expression c.args.raw.now c.loop-one.one-index c.one-item.result c.operators.result.now c.loop-one-test.true c.one-item.is c.operators.ensures))
      c.in_ok-read_const.ensures.named (mapped_push const_ops c.loop-one.found.items _ _ c.in_ok-push.ensures.items) c.loop-one.invariant.named;
  short = rw c.in_ok-push.ensures.items (All-push (λ expr. is_short expr ≡ true) c.loop-one.found.items _ c.loop-one.invariant.short c.in_ok-read_const.ensures.short);
}

pub returns-in_err-read_const-clause-named : goal.returns-in_err-read_const-clause-named
returns-in_err-read_const-clause-named c =
    let p = err_from_is_err_and c.from_residual-in_err-read_const.result c.from_residual-in_err-read_const.ensures.1 in
    rw (p.1, p.2) (read_refused (named_const (ids_at c.args.indices.now)) {A = ConstExpr} {B = Vec ConstExpr} const_ops (λ found. map const_ops found.items) (map const_ops c.loop-one.found.items) _ _ _ _ _
    (ap (map consts_of) (next_of expression c.args.raw.now c.loop-one.one-index c.one-item.result c.operators.result.now c.loop-one-test.true c.one-item.is c.operators.ensures))
    c.loop-one.invariant.named c.in_err-read_const.ensures.named)

pub returns-clause-named : goal.returns-clause-named
returns-clause-named c =
    read_all (named_const (ids_at c.args.indices.now)) (map const_ops c.loop-one.found.items) _ _ (ap (λ (l : List _). map consts_of (map expression l)) (drop_all c.loop-one.one-index c.args.raw.now (omega (arith, c.loop-one-test.false)))) c.loop-one.invariant.named
