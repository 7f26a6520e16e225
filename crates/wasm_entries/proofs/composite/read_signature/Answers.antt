use Rattle.wasm_forms.specs.Grammar.{Vector, at}
use Rattle.wasm_forms.specs.Types.{value_type}
use Rattle.wasm_entries.specs.Record.{func_type}
use Rattle.wasm_entries.specs.TypeForms.{signature}
use Rattle.wasm_entries.proofs.Steps.{passes, signature_gives, signature_first, signature_second}
use Rattle.wasm_entries.proofs.composite.read_signature.Goals as goal

pub returns-in_err-params : goal.returns-in_err-params
returns-in_err-params c = passes c.from_residual.result (λ r. (func_type r.0, r.1.now)) c.in_err-params.field-0.0 (at (Vector value_type) c.args.bytes.now) (at signature c.args.bytes.now) c.from_residual.ensures.1 c.in_err-params.ensures.gives (signature_first c.args.bytes.now)

pub returns-in_err-results : goal.returns-in_err-results
returns-in_err-results c = passes c.from_residual-in_err-results.result (λ r. (func_type r.0, r.1.now)) c.in_err-results.field-0.0 (at (Vector value_type) c.in_ok-params.after.now) (at signature c.args.bytes.now) c.from_residual-in_err-results.ensures.1 c.in_err-results.ensures.gives (signature_second c.args.bytes.now c.in_ok-params.after.now c.in_ok-params.params.items c.in_ok-params.ensures.gives)

pub returns : goal.returns
returns c = signature_gives c.args.bytes.now c.in_ok-params.after.now c.in_ok-results.rest.now c.in_ok-params.params.items c.in_ok-results.results.items c.in_ok-params.ensures.gives c.in_ok-results.ensures.gives
