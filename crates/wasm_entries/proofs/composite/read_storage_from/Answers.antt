use Rattle.std.proofs.Common.{rules}
use Rattle.wasm_forms.specs.Grammar.{at}
use Rattle.wasm_forms.specs.Types.{value_from}
use Rattle.wasm_entries.specs.TypeForms.{storage_from}
use Rattle.wasm_entries.proofs.Steps.{passes, storage_gives, storage_none}
use Rattle.wasm_entries.proofs.composite.read_storage_from.Goals as goal

pub returns-in_err-value-in_default : goal.returns-in_err-value-in_default
returns-in_err-value-in_default c = passes c.from_residual.result (λ r. (r.0, r.1.now)) c.in_err-value-in_default.field-0.0 (at (value_from c.args.first) c.args.bytes.now) (at (storage_from c.args.first) c.args.bytes.now) c.from_residual.ensures.1 c.in_err-value-in_default.ensures (storage_none c.args.first c.args.bytes.now (search rules) (search rules))

pub returns-in_ok-value-in_default : goal.returns-in_ok-value-in_default
returns-in_ok-value-in_default c = storage_gives c.args.first c.args.bytes.now c.in_ok-value-in_default.rest.now c.in_ok-value-in_default.value (search rules) (search rules) c.in_ok-value-in_default.ensures
