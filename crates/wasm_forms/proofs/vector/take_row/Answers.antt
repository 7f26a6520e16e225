use Rattle.std.proofs.Common.{◌≡◌, suc, ◌+◌, ◌-◌, [], ◌∷◌, map, sym, ap, ◌∙◌, arith}
use Rattle.std.proofs.lemmas.List.{map-append}
use Rattle.std.proofs.lemmas.Result.{err_from_is_err_and}
use Rattle.wasm_forms.specs.Reading.{◌>>=◌}
use Rattle.wasm_forms.specs.Grammar.{at, row_at, behind}
use Rattle.wasm_forms.proofs.Refused.{refused}
use Rattle.wasm_forms.proofs.Rows.{row_turn, row_stuck, row_full}
use Rattle.wasm_forms.proofs.vector.take_row.Goals as goal

pub returns-in_err-item : goal.returns-in_err-item
returns-in_err-item g c =
    let f = at g.E.Element.form in
    let p = err_from_is_err_and c.from_residual-in_err-item.result c.from_residual-in_err-item.ensures.1 in
    let e : c.args.count - c.elements._taken ≡ suc (c.args.count - (c.elements._taken + 1)) = omega arith in
    rw (p.1, p.2) (refused c.in_err-item.field-0.0 (f c.elements.rest.now) (row_at f c.args.count c.args.bytes.now) c.in_err-item.ensures
    (λ n. c.elements.invariant ∙ ap (λ k. row_at f k c.elements.rest.now >>= behind (map g.E.Element.view c.elements.items.items)) e ∙ row_stuck f (c.args.count - (c.elements._taken + 1)) c.elements.rest.now (map g.E.Element.view c.elements.items.items) n))

pub elements-preserved : goal.elements-preserved
elements-preserved g c =
    let f = at g.E.Element.form in
    let v = g.E.Element.view in
    let e : c.args.count - c.elements._taken ≡ suc (c.args.count - (c.elements._taken + 1)) = omega arith in
    c.elements.invariant ∙ ap (λ k. row_at f k c.elements.rest.now >>= behind (map v c.elements.items.items)) e
    ∙ row_turn f (c.args.count - (c.elements._taken + 1)) c.elements.rest.now c.in_ok-item.after.now (map v c.elements.items.items) (v c.in_ok-item.item) c.in_ok-item.ensures
    ∙ ap (λ l. row_at f (c.args.count - (c.elements._taken + 1)) c.in_ok-item.after.now >>= behind l) (sym (ap (map v) c.in_ok-push.ensures.items ∙ map-append v c.elements.items.items (c.in_ok-item.item ∷ [])))

pub returns : goal.returns
returns g c =
    let f = at g.E.Element.form in
    let e : c.args.count - c.elements._taken ≡ 0 = omega arith in
    c.elements.invariant ∙ ap (λ k. row_at f k c.elements.rest.now >>= behind (map g.E.Element.view c.elements.items.items)) e ∙ row_full f c.elements.rest.now (map g.E.Element.view c.elements.items.items)
