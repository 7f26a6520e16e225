use Rattle.wasm_forms.specs.Grammar.{Vector, at}
use Rattle.wasm_forms.specs.Types.{reference_type}
use Rattle.wasm_entries.specs.Record.{items_of, expression}
use Rattle.wasm_entries.specs.Forms.{expression_form, typed}
use Rattle.std.proofs.Common.{map}
use Rattle.wasm_entries.proofs.Steps.{passes}
use Rattle.wasm_entries.proofs.DataSteps.{typed_gives, typed_first, typed_second}
use Rattle.wasm_entries.proofs.segment.read_typed.Goals as goal

pub returns-in_err-ty : goal.returns-in_err-ty
returns-in_err-ty c = passes c.from_residual.result (λ r. (items_of r.0, r.1.now)) c.in_err-ty.field-0.0 (at reference_type c.args.bytes.now) (at typed c.args.bytes.now) c.from_residual.ensures.1 c.in_err-ty.ensures (typed_first c.args.bytes.now)

pub returns-in_err-expressions : goal.returns-in_err-expressions
returns-in_err-expressions c = passes c.from_residual-in_err-expressions.result (λ r. (items_of r.0, r.1.now)) c.in_err-expressions.field-0.0 (at (Vector expression_form) c.in_ok-ty.after.now) (at typed c.args.bytes.now) c.from_residual-in_err-expressions.ensures.1 c.in_err-expressions.ensures (typed_second c.args.bytes.now c.in_ok-ty.after.now c.in_ok-ty.ty c.in_ok-ty.ensures)

pub returns : goal.returns
returns c = typed_gives c.args.bytes.now c.in_ok-ty.after.now c.in_ok-expressions.rest.now c.in_ok-ty.ty (map expression c.in_ok-expressions.expressions.items) c.in_ok-ty.ensures c.in_ok-expressions.ensures
