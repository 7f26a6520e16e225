use Rattle.wasm_forms.specs.Grammar.{Made, S32, at}
use Rattle.wasm_entries.specs.declared.record.RawConst.TheVariants as ops
use Rattle.wasm_entries.proofs.Steps.{passes, made_none}
use Rattle.wasm_entries.proofs.constant.read_i32_const.Goals as goal

pub returns-in_err-value : goal.returns-in_err-value
returns-in_err-value c = passes c.from_residual.result (λ r. (r.0, r.1.now)) c.in_err-value.field-0.0 (at S32 c.args.bytes.now) (at (Made ops.I32Const S32) c.args.bytes.now) c.from_residual.ensures.1 c.in_err-value.ensures.gives (made_none ops.I32Const S32 c.args.bytes.now)
