use Rattle.std.proofs.Common.{◌≡◌, ℕ, ◌+◌, ◌<◌, ◌≤◌, suc, Bool, false, List, ◌∷◌, Option, Some, None, length, map, drop, get_or, ap, ◌∙◌, sym, rules, arith, add-one}
use Rattle.std.proofs.lemmas.List.{drop_all}
use Rattle.std.proofs.lemmas.Result.{err_from_is_err_and}
use Rattle.std.proofs.Math.Seq.{drop-cons}
use Rattle.walrus_base.specs.Operators.{Arg, Op}
use Rattle.walrus_code.specs.Code.{arg_of, op_of, ops_of}
use Rattle.walrus_code.specs.declared.operator.Operator.{Operator}
use Rattle.walrus_bodies.specs.declared.blocks.Opened.{Opened}
use Rattle.walrus_bodies.specs.Blocks.{blocks_after, nests}
use Rattle.walrus_bodies.specs.OpenBlocks.{opened}
use Rattle.walrus_bodies.proofs.emit.are_nested.Goals as goal

next_op : (xs : List Operator) (i : ℕ) (x : Operator) → i < length xs → get_or xs i x ≡ x → ops_of (drop i xs) ≡ op_of x ∷ ops_of (drop (i + 1) xs)
next_op xs i x below item = ap ops_of (drop-cons xs i x below ∙ ap (λ (o : Operator). o ∷ drop (suc i) xs) item ∙ ap (λ (n : ℕ). x ∷ drop n xs) (sym (add-one i)))

-- over an operator that may stand there, and over one that may not
nests_on : (o : Op) (args : List Arg) (old new : List Opened) (left all : List Op) (whole : Bool) → blocks_after o.op args old ≡ Some new → args ≡ o.args → all ≡ o ∷ left → nests (Some old) all ≡ whole → nests (Some new) left ≡ whole
nests_on o args old new left all whole steps same next so_far =
    ap (λ (blocks : Option (List Opened)). nests blocks left) (sym steps ∙ ap (λ (these : List Arg). blocks_after o.op these old) same) ∙ ap (nests (Some old)) (sym next) ∙ so_far

nests_not : (o : Op) (args : List Arg) (old : List Opened) (left all : List Op) (whole : Bool) → blocks_after o.op args old ≡ None → args ≡ o.args → all ≡ o ∷ left → nests (Some old) all ≡ whole → false ≡ whole
nests_not o args old left all whole steps same next so_far =
    sym (sym so_far ∙ ap (nests (Some old)) next ∙ ap (λ (blocks : Option (List Opened)). nests blocks left) (ap (λ (these : List Arg). blocks_after o.op these old) (sym same) ∙ steps))

pub returns-in_err-blocks : goal.returns-in_err-blocks
returns-in_err-blocks c = let p = err_from_is_err_and c.from_residual.result c.from_residual.ensures.1 in rw p.1 tt

pub loop-operator-init : goal.loop-operator-init
loop-operator-init c = ap (λ (blocks : List Opened). nests (Some blocks) (ops_of c.args.operators.now)) c.in_ok-blocks.ensures

pub returns-in_err-step : goal.returns-in_err-step
returns-in_err-step c = let p = err_from_is_err_and c.from_residual-in_err-step.result c.from_residual-in_err-step.ensures.1 in rw p.1 tt

pub returns-then-not-branch : goal.returns-then-not-branch
returns-then-not-branch c =
    let xs = c.args.operators.now in
    let i = c.loop-operator.operator-index in
    let x = c.operator-item.result in
    let below : i < length xs = omega arith in
    let item : get_or xs i x ≡ x = search rules in
    nests_not (op_of x) (map arg_of c.as_slice.result.now) (opened c.loop-operator.blocks) (ops_of (drop (i + 1) xs)) (ops_of (drop i xs)) _ (rw c.if-not-branch.true at c.in_ok-step.ensures) c.as_slice.ensures (next_op xs i x below item) c.loop-operator.invariant

pub loop-operator-preserved : goal.loop-operator-preserved
loop-operator-preserved c =
    let xs = c.args.operators.now in
    let i = c.loop-operator.operator-index in
    let x = c.operator-item.result in
    let below : i < length xs = omega arith in
    let item : get_or xs i x ≡ x = search rules in
    nests_on (op_of x) (map arg_of c.as_slice.result.now) (opened c.loop-operator.blocks) (opened c.step.new.self) (ops_of (drop (i + 1) xs)) (ops_of (drop i xs)) _ (rw c.if-not-branch.false at c.in_ok-step.ensures) c.as_slice.ensures (next_op xs i x below item) c.loop-operator.invariant

pub returns : goal.returns
returns c =
    let xs = c.args.operators.now in
    let past : length xs ≤ c.loop-operator.operator-index = omega arith in
    c.is_closed.ensures ∙ ap (nests (Some (opened c.loop-operator.blocks))) (sym (ap ops_of (drop_all c.loop-operator.operator-index xs past))) ∙ c.loop-operator.invariant
