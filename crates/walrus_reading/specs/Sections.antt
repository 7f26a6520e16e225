-- What the rules on the sections of a module come to for reading what they hold: a premise inside.
use Rattle.std.specs.Prelude.{true, length, All, ◌≡◌}
use Rattle.wasm_frames.specs.Record as wire
use Rattle.wasm_wire.specs.Context.{context_of, counts_of}
use Rattle.wasm_wire.specs.Indices.{IndicesHold, TypesRefer}
use Rattle.walrus_model.specs.Reads.{is_function}

pub record Rules (m : wire.Module) : Type 0 where
  pub types_refer : TypesRefer m.types
  pub function_types : All (λ t. is_function m t ≡ true) m.functions
  pub indices : IndicesHold (counts_of (context_of m)) m
  pub as_many_bodies : length m.bodies ≡ length m.functions
