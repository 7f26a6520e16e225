use Rattle.std.proofs.Common.{ap, sym, ◌∙◌, ◌++◌, List, ℕ, length, arith}
use Rattle.std.proofs.lemmas.Result.{err_from_is_err_and}
use Rattle.wasm_forms.proofs.Groups.{number-groups, one_byte}
use Rattle.wasm_forms.proofs.write.write_u64.Goals as goal

pub returns-then-value-ge128-clause-written : goal.returns-then-value-ge128-clause-written
returns-then-value-ge128-clause-written c = rw (number-groups c.args.value) at c.write_groups.ensures.written

pub returns-then-value-ge128-clause-room : goal.returns-then-value-ge128-clause-room
returns-then-value-ge128-clause-room c = rw (number-groups c.args.value) at c.write_groups.ensures.room

pub returns-in_err-push-clause-room : goal.returns-in_err-push-clause-room
returns-in_err-push-clause-room c =
    let p = err_from_is_err_and c.from_residual.result c.from_residual.ensures.1 in
    rw p.1 (omega (arith, c.in_err-push.ensures.full, ap (λ (l : List ℕ). length l) (one_byte c.args.value c.if-value-ge128.false)))

pub returns-clause-written : goal.returns-clause-written
returns-clause-written c = c.in_ok-push.ensures.items ∙ ap (λ (l : List ℕ). c.args.to.now.items ++ l) (sym (one_byte c.args.value c.if-value-ge128.false))
