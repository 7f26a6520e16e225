use Rattle.std.proofs.Common.{◌≡◌, suc, ◌+◌, ◌-◌, [], ◌∷◌, map, sym, ap, ◌∙◌, arith}
use Rattle.std.proofs.lemmas.List.{map-append}
use Rattle.std.proofs.lemmas.Result.{err_from_is_err_and}
use Rattle.wasm_forms.specs.Reading.{◌>>=◌}
use Rattle.wasm_forms.specs.Grammar.{at, row_at, behind}
use Rattle.wasm_forms.proofs.Refused.{refused}
use Rattle.wasm_forms.proofs.Rows.{row_turn, row_stuck, row_full}
use Rattle.wasm_payloads.specs.Producers.{value, value_record}
use Rattle.wasm_payloads.proofs.producers.read_values.Goals as goal

pub returns-in_err-pair : goal.returns-in_err-pair
returns-in_err-pair c =
    let f = at value in
    let p = err_from_is_err_and c.from_residual.result c.from_residual.ensures.1 in
    let e : c.args.count - c.values._taken ≡ suc (c.args.count - (c.values._taken + 1)) = omega arith in
    rw (p.1, p.2) (refused c.in_err-pair.field-0.0 (f c.values.rest.now) (row_at f c.args.count c.args.bytes.now) c.in_err-pair.ensures
    (λ n. c.values.invariant ∙ ap (λ k. row_at f k c.values.rest.now >>= behind (map value_record c.values.values.items)) e ∙ row_stuck f (c.args.count - (c.values._taken + 1)) c.values.rest.now (map value_record c.values.values.items) n))

pub values-preserved : goal.values-preserved
values-preserved c =
    let f = at value in
    let v = value_record in
    let e : c.args.count - c.values._taken ≡ suc (c.args.count - (c.values._taken + 1)) = omega arith in
    c.values.invariant ∙ ap (λ k. row_at f k c.values.rest.now >>= behind (map v c.values.values.items)) e
    ∙ row_turn f (c.args.count - (c.values._taken + 1)) c.values.rest.now c.in_ok-pair.after.now (map v c.values.values.items) (v c.in_ok-pair.pair) c.in_ok-pair.ensures
    ∙ ap (λ l. row_at f (c.args.count - (c.values._taken + 1)) c.in_ok-pair.after.now >>= behind l) (sym (ap (map v) c.in_ok-push.ensures.items ∙ map-append v c.values.values.items (c.in_ok-pair.pair ∷ [])))

pub returns : goal.returns
returns c =
    let f = at value in
    let e : c.args.count - c.values._taken ≡ 0 = omega arith in
    c.values.invariant ∙ ap (λ k. row_at f k c.values.rest.now >>= behind (map value_record c.values.values.items)) e ∙ row_full f c.values.rest.now (map value_record c.values.values.items)
