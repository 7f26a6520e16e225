use Rattle.std.proofs.Common.{◌≡◌, suc, ◌+◌, ◌-◌, flat_map, ap, ◌∙◌, arith}
use Rattle.std.proofs.lemmas.Result.{err_from_is_err_and}
use Rattle.wasm_forms.specs.Grammar.{Made, Row}
use Rattle.wasm_forms.proofs.Refused.{refused}
use Rattle.wasm_operators.specs.Pushing.{push_at}
use Rattle.wasm_operators.proofs.Pushed.{entries_turn, entries_stuck, entries_full}
use Rattle.wasm_operators.proofs.list.push_entries.Goals as goal

pub returns-in_err-rest : goal.returns-in_err-rest
returns-in_err-rest g c =
    let make = g.E.Entry.make in
    let f = g.E.Entry.form in
    let done = c.entries.to.items in
    let p = err_from_is_err_and c.from_residual.result c.from_residual.ensures.1 in
    let e : c.args.count - c.entries._taken ≡ suc (c.args.count - (c.entries._taken + 1)) = omega arith in
    rw (p.1, p.2) (refused c.in_err-rest.field-0.0 (push_at done (Made make f) c.entries.rest.now) (push_at c.args.to.now.items (Made (flat_map make) (Row f c.args.count)) c.args.bytes.now) c.in_err-rest.ensures
    (λ n. c.entries.invariant ∙ ap (λ k. push_at done (Made (flat_map make) (Row f k)) c.entries.rest.now) e ∙ entries_stuck make f (c.args.count - (c.entries._taken + 1)) done c.entries.rest.now n))

pub entries-preserved : goal.entries-preserved
entries-preserved g c =
    let make = g.E.Entry.make in
    let f = g.E.Entry.form in
    let done = c.entries.to.items in
    let e : c.args.count - c.entries._taken ≡ suc (c.args.count - (c.entries._taken + 1)) = omega arith in
    c.entries.invariant ∙ ap (λ k. push_at done (Made (flat_map make) (Row f k)) c.entries.rest.now) e
    ∙ entries_turn make f (c.args.count - (c.entries._taken + 1)) done c.push.new.to.items c.entries.rest.now c.in_ok-rest.rest.now c.in_ok-rest.ensures

pub returns : goal.returns
returns g c =
    let make = g.E.Entry.make in
    let f = g.E.Entry.form in
    let e : c.args.count - c.entries._taken ≡ 0 = omega arith in
    c.entries.invariant ∙ ap (λ k. push_at c.entries.to.items (Made (flat_map make) (Row f k)) c.entries.rest.now) e ∙ entries_full make f c.entries.to.items c.entries.rest.now
