use Rattle.std.proofs.Common.{ap, subst, sym, ◌∙◌}
use Rattle.std.specs.Prelude.{Some}
use Rattle.wasm_forms.specs.Grammar.{U32, at}
use Rattle.wasm_forms.specs.Reading.{Gives}
use Rattle.wasm_entries.specs.TypeForms.{size_form}
use Rattle.wasm_entries.proofs.Steps.{passes, size_wide, size_narrow}
use Rattle.wasm_entries.proofs.limits.read_size.Goals as goal

pub returns-then-wide : goal.returns-then-wide
returns-then-wide c = subst (λ o. Gives (λ r. (r.0, r.1.now)) c.read_u64.result o) (sym (size_wide c.args.wide c.args.bytes.now c.if-wide.true)) c.read_u64.ensures.gives

pub returns-in_err-size : goal.returns-in_err-size
returns-in_err-size c = passes c.from_residual.result (λ r. (r.0, r.1.now)) c.in_err-size.field-0.0 (at U32 c.args.bytes.now) (at (size_form c.args.wide) c.args.bytes.now) c.from_residual.ensures.1 c.in_err-size.ensures.gives (λ n. size_narrow c.args.wide c.args.bytes.now c.if-wide.false ∙ n)

pub returns : goal.returns
returns c = size_narrow c.args.wide c.args.bytes.now c.if-wide.false ∙ c.in_ok-size.ensures.gives ∙ ap (λ n. Some (n, c.in_ok-size.rest.now)) (sym c.from.ensures)
