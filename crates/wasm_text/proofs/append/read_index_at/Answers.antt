use Rattle.std.proofs.Common.{sym, ap, ◌∙◌}
use Rattle.wasm_forms.specs.Grammar.{at, U32}
use Rattle.wasm_operators.proofs.Refusals.{malformed_none, not_large}
use Rattle.wasm_text.proofs.Marked.{standing_read, stands_again}
use Rattle.wasm_text.proofs.append.read_index_at.Goals as goal

pub memory_of-requires-clause-malformed : goal.memory_of-requires-clause-malformed
memory_of-requires-clause-malformed c =
    λ e. standing_read U32 c.args.bytes.now c.args.at c.requires.0 c.requires.1 c.requires.2 (ap (at U32) (sym c.rest_from.ensures) ∙ malformed_none c.in-Err.error _ c.in-Err.ensures.gives e)

pub memory_of-requires-clause-large : goal.memory_of-requires-clause-large
memory_of-requires-clause-large c = not_large c.in-Err.error _ c.in-Err.ensures.gives

pub returns-in-Ok : goal.returns-in-Ok
returns-in-Ok c =
    stands_again U32 c.args.bytes.now c.args.at c.requires.0 c.requires.1 c.in-Ok.read.0 c.in-Ok.read.1.now c.requires.2 (ap (at U32) (sym c.rest_from.ensures) ∙ c.in-Ok.ensures.gives)
