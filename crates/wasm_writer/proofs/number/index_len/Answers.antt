use Rattle.std.proofs.Common.{false, length, ap, ◌∙◌}
use Rattle.wasm_forms.specs.Spelling.{groups}
use Rattle.wasm_forms.proofs.Groups.{integer-groups}
use Rattle.wasm_writer.proofs.number.index_len.Goals as goal

pub returns-clause-written : goal.returns-clause-written
returns-clause-written c = c.groups_len.ensures.written false ∙ ap (λ n. length (groups false 64 9 n)) c.from.ensures ∙ ap length (integer-groups c.args.index).0
