use Rattle.std.proofs.Common.{◌≡◌, ℕ, suc, ◌+◌, ◌-◌, length, List, eqb-true, eq-eqb, sym, ap, ◌∙◌, arith}
use Rattle.std.specs.Prelude.{Option, nat_eq, false}
use Rattle.std.proofs.lemmas.Result.{err_from_is_err_and}
use Rattle.wasm_forms.specs.Reading.{◌>>=◌, byte_at}
use Rattle.wasm_forms.specs.Grammar.{at, until_at, behind}
use Rattle.wasm_forms.proofs.Refused.{refused}
use Rattle.wasm_entries.specs.declared.record.RawConst.{RawConst}
use Rattle.wasm_entries.specs.Forms.{const_from}
use Rattle.wasm_forms.proofs.RowTurns.{until_none, until_stop, until_stuck, until_turn, until_out}
use Rattle.wasm_entries.proofs.constant.take_operators.Goals as goal
use Rattle.std.proofs.lemmas.Bool.{false_from_ne_true as false_unless}

-- the operator that begins with this byte
abbrev operator : ℕ → List ℕ → Option (RawConst × List ℕ)
operator b = at (const_from b)

pub returns-in_err-first : goal.returns-in_err-first
returns-in_err-first c =
    let p = err_from_is_err_and c.from_residual.result c.from_residual.ensures.1 in
    let bytes = c.args.bytes.now in
    let rest = c.operators.rest.now in
    let done = c.operators.operators.items in
    let left : length bytes - c.operators._turn ≡ suc (length bytes - (c.operators._turn + 1)) = omega arith in
    rw (p.1, p.2) (refused c.in_err-first.field-0.0 (byte_at rest) (until_at operator 11 (length bytes) bytes) c.in_err-first.ensures.gives
    (λ n. c.operators.invariant ∙ ap (λ k. until_at operator 11 k rest >>= behind done) left ∙ until_none operator 11 (length bytes - (c.operators._turn + 1)) rest done n))

pub returns-then-from-eq-END : goal.returns-then-from-eq-END
returns-then-from-eq-END c =
    let bytes = c.args.bytes.now in
    let rest = c.operators.rest.now in
    let done = c.operators.operators.items in
    let left : length bytes - c.operators._turn ≡ suc (length bytes - (c.operators._turn + 1)) = omega arith in
    c.operators.invariant ∙ ap (λ k. until_at operator 11 k rest >>= behind done) left
    ∙ until_stop operator 11 (length bytes - (c.operators._turn + 1)) c.in_ok-first.first rest c.in_ok-first.after.now done c.in_ok-first.ensures.gives (eq-eqb c.in_ok-first.first 11 (sym c.from.ensures ∙ c.if-from-eq-END.true))

pub returns-in_err-operator : goal.returns-in_err-operator
returns-in_err-operator c =
    let p = err_from_is_err_and c.from_residual-in_err-operator.result c.from_residual-in_err-operator.ensures.1 in
    let bytes = c.args.bytes.now in
    let rest = c.operators.rest.now in
    let done = c.operators.operators.items in
    let left : length bytes - c.operators._turn ≡ suc (length bytes - (c.operators._turn + 1)) = omega arith in
    let other : nat_eq c.in_ok-first.first 11 ≡ false = false_unless (nat_eq c.in_ok-first.first 11) (λ t. c.if-from-eq-END.false (c.from.ensures ∙ eqb-true c.in_ok-first.first 11 t)) in
    rw (p.1, p.2) (refused c.in_err-operator.field-0.0 (operator c.in_ok-first.first c.in_ok-first.after.now) (until_at operator 11 (length bytes) bytes) c.in_err-operator.ensures
    (λ n. c.operators.invariant ∙ ap (λ k. until_at operator 11 k rest >>= behind done) left
    ∙ until_stuck operator 11 (length bytes - (c.operators._turn + 1)) c.in_ok-first.first rest c.in_ok-first.after.now done c.in_ok-first.ensures.gives other n))

pub operators-preserved : goal.operators-preserved
operators-preserved c =
    let bytes = c.args.bytes.now in
    let rest = c.operators.rest.now in
    let done = c.operators.operators.items in
    let most = length bytes - (c.operators._turn + 1) in
    let left : length bytes - c.operators._turn ≡ suc (length bytes - (c.operators._turn + 1)) = omega arith in
    let other : nat_eq c.in_ok-first.first 11 ≡ false = false_unless (nat_eq c.in_ok-first.first 11) (λ t. c.if-from-eq-END.false (c.from.ensures ∙ eqb-true c.in_ok-first.first 11 t)) in
    c.operators.invariant ∙ ap (λ k. until_at operator 11 k rest >>= behind done) left
    ∙ until_turn operator 11 most c.in_ok-first.first rest c.in_ok-first.after.now c.in_ok-operator.behind.now done c.in_ok-operator.operator c.in_ok-first.ensures.gives other c.in_ok-operator.ensures
    ∙ ap (λ l. until_at operator 11 most c.in_ok-operator.behind.now >>= behind l) (sym c.in_ok-push.ensures.items)

pub returns : goal.returns
returns c =
    let bytes = c.args.bytes.now in
    let rest = c.operators.rest.now in
    let done = c.operators.operators.items in
    let left : length bytes - c.operators._turn ≡ 0 = omega arith in
    c.operators.invariant ∙ ap (λ k. until_at operator 11 k rest >>= behind done) left ∙ until_out operator 11 rest done
