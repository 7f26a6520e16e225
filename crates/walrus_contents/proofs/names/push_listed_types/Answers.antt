use Rattle.std.proofs.Common.{◌≡◌, get_or, rules, subst, sym}
use Rattle.std.proofs.lemmas.Result.{err_from_is_err_and}
use Rattle.walrus_code.specs.Code.{op_of, ops_of}
use Rattle.walrus_code.specs.declared.operator.Operator.{Operator}
use Rattle.walrus_base.specs.Operators.{locals_of, op_locals}
use Rattle.walrus_contents.specs.Named.{OneIsMissing, PutsTypes}
use Rattle.walrus_contents.proofs.LocalTypes.{missing_among, types_all, types_more, types_none}
use Rattle.walrus_contents.proofs.NamedLemmas.{refusal_map}
use Rattle.walrus_contents.proofs.names.push_listed_types.Goals as goal

pub loop-operator-init : goal.loop-operator-init
loop-operator-init c = types_none c.args.locals.now c.args.to.now

pub returns-in_err-push_operator_types : goal.returns-in_err-push_operator_types
returns-in_err-push_operator_types c =
    let p = err_from_is_err_and c.from_residual.result c.from_residual.ensures.1 in
    let all = c.args.locals.now in
    let operators = c.args.operators.now in
    let i = c.loop-operator.operator-index in
    let x = c.operator-item.result in
    let item : get_or operators i x ≡ x = search rules in
    rw (p.1, p.2) (refusal_map _ (OneIsMissing all (locals_of (ops_of operators)))
    (λ one. missing_among all op_of op_locals operators i x c.loop-operator-test.true
    (subst (λ (o : Operator). OneIsMissing all (op_locals (op_of o))) (sym item) one))
    c.in_err-push_operator_types.field-0.0 c.in_err-push_operator_types.ensures)

pub loop-operator-preserved : goal.loop-operator-preserved
loop-operator-preserved c =
    let all = c.args.locals.now in
    let operators = c.args.operators.now in
    let i = c.loop-operator.operator-index in
    let now = c.loop-operator.to in
    let new = c.push_operator_types.new.to in
    let x = c.operator-item.result in
    let item : get_or operators i x ≡ x = search rules in
    types_more all op_of op_locals operators i x c.args.to.now now new c.loop-operator-test.true c.loop-operator.invariant
    (subst (λ (o : Operator). PutsTypes all (op_locals (op_of o)) now new) (sym item) c.in_ok-push_operator_types.ensures)

pub returns : goal.returns
returns c =
    types_all c.args.locals.now op_of op_locals c.args.operators.now c.loop-operator.operator-index c.args.to.now c.loop-operator.to c.loop-operator-test.false
    c.loop-operator.invariant
