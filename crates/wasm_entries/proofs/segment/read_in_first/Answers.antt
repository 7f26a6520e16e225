use Rattle.wasm_forms.specs.Grammar.{at}
use Rattle.wasm_entries.specs.Record.{element_mode, expression}
use Rattle.wasm_entries.specs.Forms.{expression_form, in_first}
use Rattle.wasm_entries.proofs.Steps.{passes, first_gives, first_none}
use Rattle.wasm_entries.proofs.segment.read_in_first.Goals as goal

pub returns-in_err-offset : goal.returns-in_err-offset
returns-in_err-offset c = passes c.from_residual.result (λ r. (element_mode r.0, r.1.now)) c.in_err-offset.field-0.0 (at expression_form c.args.bytes.now) (at in_first c.args.bytes.now) c.from_residual.ensures.1 c.in_err-offset.ensures (first_none c.args.bytes.now)

pub returns : goal.returns
returns c = first_gives c.args.bytes.now c.in_ok-offset.rest.now (expression c.in_ok-offset.offset) c.in_ok-offset.ensures
