use Rattle.std.proofs.Common.{sym, ap, ◌∙◌}
use Rattle.wasm_forms.specs.Grammar.{at}
use Rattle.wasm_text.specs.Marks.{form_of, kind_of}
use Rattle.wasm_operators.proofs.Refusals.{malformed_none, not_large}
use Rattle.wasm_text.proofs.Marked.{argument_found}
use Rattle.wasm_text.proofs.append.read_at_mark.Goals as goal

pub memory_of-requires-clause-malformed : goal.memory_of-requires-clause-malformed
memory_of-requires-clause-malformed c = λ e. argument_found c.args.bytes.now c.args.mark c.requires (ap (at (form_of (kind_of c.args.mark))) (sym c.rest_from.ensures) ∙ malformed_none c.in-Err.error _ c.in-Err.ensures e)

pub memory_of-requires-clause-large : goal.memory_of-requires-clause-large
memory_of-requires-clause-large c = not_large c.in-Err.error _ c.in-Err.ensures
