use Rattle.std.proofs.Common.{◌≡◌, suc, ◌+◌, ◌-◌, sym, ap, ◌∙◌, arith}
use Rattle.std.proofs.lemmas.Result.{err_from_is_err_and}
use Rattle.wasm_forms.specs.Grammar.{at}
use Rattle.wasm_forms.proofs.Refused.{refused}
use Rattle.wasm_wire.specs.Locals.{declaration, totals_at}
use Rattle.wasm_wire.proofs.Totals.{totals_turn, totals_stuck, totals_full}
use Rattle.wasm_wire.proofs.rules.locals.take_declarations.Goals as goal

pub returns-in_err-more : goal.returns-in_err-more
returns-in_err-more c =
    let p = err_from_is_err_and c.from_residual.result c.from_residual.ensures.1 in
    let left = c.args.count - (c.declarations._taken + 1) in
    let e : c.args.count - c.declarations._taken ≡ suc left = omega arith in
    rw (p.1, p.2) (refused c.in_err-more.field-0.0 (at declaration c.declarations.rest.now) (totals_at c.args.count 0 c.args.bytes.now) c.in_err-more.ensures
    (λ n. c.declarations.invariant.same ∙ ap (λ k. totals_at k c.declarations.total c.declarations.rest.now) e ∙ totals_stuck left c.declarations.total c.declarations.rest.now n))

pub declarations-preserved : goal.declarations-preserved
declarations-preserved c =
    let left = c.args.count - (c.declarations._taken + 1) in
    let e : c.args.count - c.declarations._taken ≡ suc left = omega arith in
    record {
      same = c.declarations.invariant.same ∙ ap (λ k. totals_at k c.declarations.total c.declarations.rest.now) e
          ∙ totals_turn left c.declarations.total c.declarations.rest.now c.in_ok-more.after.now c.in_ok-more.more c.in_ok-more.ensures
          ∙ ap (λ t. totals_at left t c.in_ok-more.after.now) (sym c.add_locals-total.ensures.sum);
      small = c.add_locals-total.ensures.bounded;
    }

pub returns : goal.returns
returns c =
    let e : c.args.count - c.declarations._taken ≡ 0 = omega arith in
    c.declarations.invariant.same ∙ ap (λ k. totals_at k c.declarations.total c.declarations.rest.now) e ∙ totals_full c.declarations.total c.declarations.rest.now
