use Rattle.std.proofs.Common.{◌≡◌, suc, ◌+◌, ◌-◌, sym, ap, ◌∙◌, arith}
use Rattle.std.proofs.lemmas.Result.{err_from_is_err_and}
use Rattle.wasm_forms.specs.Reading.{◌>>=◌}
use Rattle.wasm_forms.specs.Grammar.{at, row_at, behind}
use Rattle.wasm_forms.proofs.Rows.{row_turn, row_stuck, row_full}
use Rattle.wasm_entries.specs.TypeForms.{tag_type}
use Rattle.wasm_frames.proofs.Results.{refuses_through}
use Rattle.wasm_frames.proofs.tag.take_tags.Goals as goal

pub returns-in_err-index : goal.returns-in_err-index
returns-in_err-index c =
    let f = at tag_type in
    let p = err_from_is_err_and c.from_residual-in_err-index.result c.from_residual-in_err-index.ensures.1 in
    let e : c.args.count - c.reading._taken ≡ suc (c.args.count - (c.reading._taken + 1)) = omega arith in
    rw (p.1, p.2) (refuses_through _ _ _
    (λ n. c.reading.invariant ∙ ap (λ k. row_at f k c.reading.rest.now >>= behind c.reading.tags.items) e ∙ row_stuck f (c.args.count - (c.reading._taken + 1)) c.reading.rest.now c.reading.tags.items n) c.in_err-index.ensures)

pub reading-preserved : goal.reading-preserved
reading-preserved c =
    let f = at tag_type in
    let e : c.args.count - c.reading._taken ≡ suc (c.args.count - (c.reading._taken + 1)) = omega arith in
    c.reading.invariant ∙ ap (λ k. row_at f k c.reading.rest.now >>= behind c.reading.tags.items) e
    ∙ row_turn f (c.args.count - (c.reading._taken + 1)) c.reading.rest.now c.in_ok-index.after.now c.reading.tags.items c.in_ok-index.index c.in_ok-index.ensures
    ∙ ap (λ l. row_at f (c.args.count - (c.reading._taken + 1)) c.in_ok-index.after.now >>= behind l) (sym c.in_ok-push.ensures.items)

pub returns : goal.returns
returns c =
    let f = at tag_type in
    let e : c.args.count - c.reading._taken ≡ 0 = omega arith in
    c.reading.invariant ∙ ap (λ k. row_at f k c.reading.rest.now >>= behind c.reading.tags.items) e ∙ row_full f c.reading.rest.now c.reading.tags.items
