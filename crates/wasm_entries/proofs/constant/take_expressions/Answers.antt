use Rattle.std.proofs.Common.{◌≡◌, suc, ◌+◌, ◌-◌, [], ◌∷◌, map, sym, ap, ◌∙◌, arith}
use Rattle.std.proofs.lemmas.List.{map-append}
use Rattle.std.proofs.lemmas.Result.{err_from_is_err_and}
use Rattle.wasm_forms.specs.Reading.{◌>>=◌}
use Rattle.wasm_forms.specs.Grammar.{at, row_at, behind}
use Rattle.wasm_forms.proofs.Refused.{refused}
use Rattle.wasm_forms.proofs.Rows.{row_turn, row_stuck, row_full}
use Rattle.wasm_entries.specs.Record.{expression}
use Rattle.wasm_entries.specs.Forms.{expression_form}
use Rattle.wasm_entries.proofs.constant.take_expressions.Goals as goal

pub returns-in_err-found : goal.returns-in_err-found
returns-in_err-found c =
    let f = at expression_form in
    let p = err_from_is_err_and c.from_residual-in_err-found.result c.from_residual-in_err-found.ensures.1 in
    let left : c.args.count - c.expressions._taken ≡ suc (c.args.count - (c.expressions._taken + 1)) = omega arith in
    let done = map expression c.expressions.expressions.items in
    rw (p.1, p.2) (refused c.in_err-found.field-0.0 (f c.expressions.rest.now) (row_at f c.args.count c.args.bytes.now) c.in_err-found.ensures
    (λ n. c.expressions.invariant ∙ ap (λ k. row_at f k c.expressions.rest.now >>= behind done) left ∙ row_stuck f (c.args.count - (c.expressions._taken + 1)) c.expressions.rest.now done n))

pub expressions-preserved : goal.expressions-preserved
expressions-preserved c =
    let f = at expression_form in
    let left : c.args.count - c.expressions._taken ≡ suc (c.args.count - (c.expressions._taken + 1)) = omega arith in
    let done = map expression c.expressions.expressions.items in
    c.expressions.invariant ∙ ap (λ k. row_at f k c.expressions.rest.now >>= behind done) left
    ∙ row_turn f (c.args.count - (c.expressions._taken + 1)) c.expressions.rest.now c.in_ok-found.after.now done (expression c.in_ok-found.found) c.in_ok-found.ensures
    ∙ ap (λ l. row_at f (c.args.count - (c.expressions._taken + 1)) c.in_ok-found.after.now >>= behind l) (sym (ap (map expression) c.in_ok-push.ensures.items ∙ map-append expression c.expressions.expressions.items (c.in_ok-found.found ∷ [])))

pub returns : goal.returns
returns c =
    let f = at expression_form in
    let left : c.args.count - c.expressions._taken ≡ 0 = omega arith in
    c.expressions.invariant ∙ ap (λ k. row_at f k c.expressions.rest.now >>= behind (map expression c.expressions.expressions.items)) left
    ∙ row_full f c.expressions.rest.now (map expression c.expressions.expressions.items)
