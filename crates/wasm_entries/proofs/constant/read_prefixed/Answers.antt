use Rattle.std.proofs.Common.{ap, ◌∙◌}
use Rattle.wasm_forms.specs.Grammar.{U32, at}
use Rattle.wasm_entries.specs.declared.record.RawConst.TheVariants as ops
use Rattle.wasm_entries.specs.Forms.{prefixed}
use Rattle.wasm_entries.proofs.Steps.{passes, made_gives, made_none}
use Rattle.wasm_entries.proofs.constant.read_prefixed.Goals as goal

pub returns-in_err-ty-in-0 : goal.returns-in_err-ty-in-0
unfolding prefixed
returns-in_err-ty-in-0 c = passes c.from_residual.result (λ r. (r.0, r.1.now)) c.in_err-ty-in-0.field-0.0 (at U32 c.args.bytes.now) (at (prefixed c.args.number) c.args.bytes.now) c.from_residual.ensures.1 c.in_err-ty-in-0.ensures.gives (λ m. ap (λ n. at (prefixed n) c.args.bytes.now) c.in-0.is ∙ made_none ops.StructNew U32 c.args.bytes.now m)

pub returns-in_ok-ty-in-0 : goal.returns-in_ok-ty-in-0
unfolding prefixed
returns-in_ok-ty-in-0 c = ap (λ n. at (prefixed n) c.args.bytes.now) c.in-0.is ∙ made_gives ops.StructNew U32 c.args.bytes.now c.in_ok-ty-in-0.rest.now c.in_ok-ty-in-0.ty c.in_ok-ty-in-0.ensures.gives

pub returns-in_err-ty-in-1 : goal.returns-in_err-ty-in-1
unfolding prefixed
returns-in_err-ty-in-1 c = passes c.from_residual-in_err-ty-in-1.result (λ r. (r.0, r.1.now)) c.in_err-ty-in-1.field-0.0 (at U32 c.args.bytes.now) (at (prefixed c.args.number) c.args.bytes.now) c.from_residual-in_err-ty-in-1.ensures.1 c.in_err-ty-in-1.ensures.gives (λ m. ap (λ n. at (prefixed n) c.args.bytes.now) c.in-1.is ∙ made_none ops.StructNewDefault U32 c.args.bytes.now m)

pub returns-in_ok-ty-in-1 : goal.returns-in_ok-ty-in-1
unfolding prefixed
returns-in_ok-ty-in-1 c = ap (λ n. at (prefixed n) c.args.bytes.now) c.in-1.is ∙ made_gives ops.StructNewDefault U32 c.args.bytes.now c.in_ok-ty-in-1.rest.now c.in_ok-ty-in-1.ty c.in_ok-ty-in-1.ensures.gives

pub returns-in_err-ty-in-6 : goal.returns-in_err-ty-in-6
unfolding prefixed
returns-in_err-ty-in-6 c = passes c.from_residual-in_err-ty-in-6.result (λ r. (r.0, r.1.now)) c.in_err-ty-in-6.field-0.0 (at U32 c.args.bytes.now) (at (prefixed c.args.number) c.args.bytes.now) c.from_residual-in_err-ty-in-6.ensures.1 c.in_err-ty-in-6.ensures.gives (λ m. ap (λ n. at (prefixed n) c.args.bytes.now) c.in-6.is ∙ made_none ops.ArrayNew U32 c.args.bytes.now m)

pub returns-in_ok-ty-in-6 : goal.returns-in_ok-ty-in-6
unfolding prefixed
returns-in_ok-ty-in-6 c = ap (λ n. at (prefixed n) c.args.bytes.now) c.in-6.is ∙ made_gives ops.ArrayNew U32 c.args.bytes.now c.in_ok-ty-in-6.rest.now c.in_ok-ty-in-6.ty c.in_ok-ty-in-6.ensures.gives

pub returns-in_err-ty-in-7 : goal.returns-in_err-ty-in-7
unfolding prefixed
returns-in_err-ty-in-7 c = passes c.from_residual-in_err-ty-in-7.result (λ r. (r.0, r.1.now)) c.in_err-ty-in-7.field-0.0 (at U32 c.args.bytes.now) (at (prefixed c.args.number) c.args.bytes.now) c.from_residual-in_err-ty-in-7.ensures.1 c.in_err-ty-in-7.ensures.gives (λ m. ap (λ n. at (prefixed n) c.args.bytes.now) c.in-7.is ∙ made_none ops.ArrayNewDefault U32 c.args.bytes.now m)

pub returns-in_ok-ty-in-7 : goal.returns-in_ok-ty-in-7
unfolding prefixed
returns-in_ok-ty-in-7 c = ap (λ n. at (prefixed n) c.args.bytes.now) c.in-7.is ∙ made_gives ops.ArrayNewDefault U32 c.args.bytes.now c.in_ok-ty-in-7.rest.now c.in_ok-ty-in-7.ty c.in_ok-ty-in-7.ensures.gives

pub returns-in-26 : goal.returns-in-26
unfolding prefixed
returns-in-26 c = ap (λ n. at (prefixed n) c.args.bytes.now) c.in-26.is

pub returns-in-27 : goal.returns-in-27
unfolding prefixed
returns-in-27 c = ap (λ n. at (prefixed n) c.args.bytes.now) c.in-27.is

pub returns-in-28 : goal.returns-in-28
unfolding prefixed
returns-in-28 c = ap (λ n. at (prefixed n) c.args.bytes.now) c.in-28.is
