use Rattle.wasm_operators.proofs.Refusals.{added_malformed, added_large}
use Rattle.wasm_operators.proofs.write.write_value.Goals as goal

pub memory_of-requires-clause-malformed : goal.memory_of-requires-clause-malformed
memory_of-requires-clause-malformed c = added_malformed c.in-Err.error _ _ _ _ c.in-Err.ensures.adds

pub memory_of-requires-clause-large : goal.memory_of-requires-clause-large
memory_of-requires-clause-large c = added_large c.in-Err.error _ _ _ _ tt c.in-Err.ensures.adds
