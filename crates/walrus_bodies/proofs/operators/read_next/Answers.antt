use Rattle.wasm_text.proofs.Refusals.{malformed_none, not_large}
use Rattle.walrus_bodies.proofs.operators.read_next.Goals as goal

pub memory_of-requires-clause-malformed : goal.memory_of-requires-clause-malformed
memory_of-requires-clause-malformed c = λ e. c.requires (malformed_none c.in-Err.error _ c.in-Err.ensures.gives e)

pub memory_of-requires-clause-large : goal.memory_of-requires-clause-large
memory_of-requires-clause-large c = not_large c.in-Err.error _ c.in-Err.ensures.gives
