use Rattle.std.proofs.Common.{◌≡◌, suc, ◌+◌, ◌-◌, [], ◌∷◌, map, sym, ap, ◌∙◌, arith}
use Rattle.std.proofs.lemmas.List.{map-append}
use Rattle.std.proofs.lemmas.Result.{err_from_is_err_and}
use Rattle.wasm_forms.specs.Reading.{◌>>=◌}
use Rattle.wasm_forms.specs.Grammar.{at, row_at, behind}
use Rattle.wasm_forms.proofs.Refused.{refused}
use Rattle.wasm_forms.proofs.Rows.{row_turn, row_stuck, row_full}
use Rattle.wasm_entries.specs.Record.{group}
use Rattle.wasm_entries.specs.TypeForms.{group_form}
use Rattle.wasm_entries.proofs.group.take_groups.Goals as goal

pub returns-in_err-types : goal.returns-in_err-types
returns-in_err-types c =
    let f = at group_form in
    let p = err_from_is_err_and c.from_residual-in_err-types.result c.from_residual-in_err-types.ensures.1 in
    let e : c.args.count - c.groups._taken ≡ suc (c.args.count - (c.groups._taken + 1)) = omega arith in
    rw (p.1, p.2) (refused c.in_err-types.field-0.0 (f c.groups.rest.now) (row_at f c.args.count c.args.bytes.now) c.in_err-types.ensures
    (λ n. c.groups.invariant ∙ ap (λ k. row_at f k c.groups.rest.now >>= behind (map group c.groups.groups.items)) e ∙ row_stuck f (c.args.count - (c.groups._taken + 1)) c.groups.rest.now (map group c.groups.groups.items) n))

pub groups-preserved : goal.groups-preserved
groups-preserved c =
    let f = at group_form in
    let e : c.args.count - c.groups._taken ≡ suc (c.args.count - (c.groups._taken + 1)) = omega arith in
    c.groups.invariant ∙ ap (λ k. row_at f k c.groups.rest.now >>= behind (map group c.groups.groups.items)) e
    ∙ row_turn f (c.args.count - (c.groups._taken + 1)) c.groups.rest.now c.in_ok-types.after.now (map group c.groups.groups.items) (group c.in_ok-types.types) c.in_ok-types.ensures
    ∙ ap (λ l. row_at f (c.args.count - (c.groups._taken + 1)) c.in_ok-types.after.now >>= behind l) (sym (ap (map group) c.in_ok-push.ensures.items ∙ map-append group c.groups.groups.items (c.in_ok-types.types ∷ [])))

pub returns : goal.returns
returns c =
    let f = at group_form in
    let e : c.args.count - c.groups._taken ≡ 0 = omega arith in
    c.groups.invariant ∙ ap (λ k. row_at f k c.groups.rest.now >>= behind (map group c.groups.groups.items)) e ∙ row_full f c.groups.rest.now (map group c.groups.groups.items)
