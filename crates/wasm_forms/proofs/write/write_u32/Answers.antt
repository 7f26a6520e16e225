use Rattle.std.proofs.Common.{ap, sym, ◌∙◌, false, ◌++◌, List, ℕ, length, arith}
use Rattle.std.specs.Prelude.{is_ok, if◌then◌else◌}
use Rattle.std.proofs.lemmas.Result.{err_from_is_err_and}
use Rattle.wasm_forms.specs.Spelling.{groups, number_bytes}
use Rattle.wasm_forms.proofs.Groups.{number-groups, one_byte}
use Rattle.wasm_forms.proofs.Room.{needs_as}
use Rattle.wasm_forms.proofs.write.write_u32.Goals as goal

pub returns-then-value-ge128-clause-written : goal.returns-then-value-ge128-clause-written
returns-then-value-ge128-clause-written c =
    c.write_groups.ensures.written ∙ ap (λ l. if is_ok c.write_groups.result then c.args.to.now.items ++ l else c.args.to.now.items) (ap (groups false 128 9) c.from.ensures ∙ number-groups c.args.value)

pub returns-then-value-ge128-clause-room : goal.returns-then-value-ge128-clause-room
returns-then-value-ge128-clause-room c = needs_as c.write_groups.result _ _ _ (number_bytes c.args.value) (ap (groups false 128 9) c.from.ensures ∙ number-groups c.args.value) c.write_groups.ensures.room

pub returns-in_err-push-clause-room : goal.returns-in_err-push-clause-room
returns-in_err-push-clause-room c =
    let p = err_from_is_err_and c.from_residual.result c.from_residual.ensures.1 in
    rw p.1 (omega (arith, c.in_err-push.ensures.full, ap (λ (l : List ℕ). length l) (one_byte c.args.value c.if-value-ge128.false)))

pub returns-clause-written : goal.returns-clause-written
returns-clause-written c = c.in_ok-push.ensures.items ∙ ap (λ (l : List ℕ). c.args.to.now.items ++ l) (sym (one_byte c.args.value c.if-value-ge128.false))
