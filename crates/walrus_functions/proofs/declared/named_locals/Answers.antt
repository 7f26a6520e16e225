use Rattle.std.proofs.Common.{◌≡◌, ◌+◌, ◌<◌, ◌≤◌, ℕ, List, ◌++◌, length, map, drop, get_or, ap, ◌∙◌, sym, arith, rules, append_assoc}
use Rattle.std.proofs.lemmas.List.{append-nil, drop_all}
use Rattle.std.proofs.lemmas.Result.{err_from_is_err_and}
use Rattle.walrus_base.specs.Id.{place}
use Rattle.walrus_base.specs.Operators.{Op, locals_of, op_locals}
use Rattle.walrus_code.specs.Code.{op_of, ops_of}
use Rattle.walrus_code.specs.declared.operator.Operator.{Operator}
use Rattle.walrus_functions.proofs.HandlerLemmas.{next_op}
use Rattle.walrus_functions.proofs.declared.named_locals.Goals as goal

pub returns-in_err-push_locals : goal.returns-in_err-push_locals
returns-in_err-push_locals c = let p = err_from_is_err_and c.from_residual.result c.from_residual.ensures.1 in rw p.1 tt

pub loop-operator-preserved : goal.loop-operator-preserved
loop-operator-preserved c =
    let xs = c.args.operators.now in
    let i = c.loop-operator.operator-index in
    let x = c.operator-item.result in
    let below : i < length xs = omega arith in
    let item : get_or xs i x ≡ x = search rules in
    let had = map place c.loop-operator.named.items in
    let left = locals_of (ops_of (drop (i + 1) xs)) in
    ap (λ (ps : List ℕ). ps ++ left) c.in_ok-push_locals.ensures.locals
    ∙ append_assoc had (op_locals (op_of x)) left
    ∙ ap (λ (os : List Op). had ++ locals_of os) (sym (next_op xs i x below item))
    ∙ c.loop-operator.invariant

pub returns : goal.returns
returns c =
    let xs = c.args.operators.now in
    let past : length xs ≤ c.loop-operator.operator-index = omega arith in
    sym (append-nil (map place c.loop-operator.named.items)) ∙ ap (λ (os : List Operator). map place c.loop-operator.named.items ++ locals_of (ops_of os)) (sym (drop_all c.loop-operator.operator-index xs past)) ∙ c.loop-operator.invariant
