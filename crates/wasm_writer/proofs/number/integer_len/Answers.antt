use Rattle.std.proofs.Common.{true, false, length, ap, ◌∙◌}
use Rattle.wasm_forms.proofs.Signs.{long_written_low, long_written_high}
use Rattle.wasm_writer.proofs.number.integer_len.Goals as goal

pub returns-then-value-lt0-clause-written : goal.returns-then-value-lt0-clause-written
returns-then-value-lt0-clause-written c = c.groups_len.ensures.written true ∙ ap length (long_written_low c.args.value c.ranges.value c.if-value-lt0.true)

pub returns-else-value-lt0-clause-written : goal.returns-else-value-lt0-clause-written
returns-else-value-lt0-clause-written c = c.groups_len-else-value-lt0.ensures.written false ∙ ap length (long_written_high c.args.value c.ranges.value c.if-value-lt0.false)
