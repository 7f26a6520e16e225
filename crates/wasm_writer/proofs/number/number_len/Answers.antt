use Rattle.std.proofs.Common.{false, length, ap, ◌∙◌}
use Rattle.wasm_forms.proofs.Groups.{number-groups}
use Rattle.wasm_writer.proofs.number.number_len.Goals as goal

pub returns-clause-written : goal.returns-clause-written
returns-clause-written c = c.groups_len.ensures.written false ∙ ap length (number-groups c.args.value)
