use Rattle.wasm_forms.proofs.Adding.{vector_map}
use Rattle.wasm_forms.specs.Writing.{FitsLength}
use Rattle.wasm_entries.specs.Record.{expression}
use Rattle.wasm_entries.specs.Spelling.{expression_bytes}
use Rattle.wasm_writer.proofs.Groups.{measures_as}
use Rattle.wasm_writer.proofs.constant.measured_expressions.Goals as goal

pub returns : goal.returns
returns c = measures_as c.measured_counted.result _ _ (FitsLength c.args.expressions.now) (FitsLength c.args.expressions.now) (vector_map expression expression_bytes c.args.expressions.now) (λ h. h) (λ h. h) c.measured_counted.ensures
