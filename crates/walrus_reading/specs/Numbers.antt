-- How many indices the items of a module need while it is read ("Structure > Modules > Indices").
use Rattle.std.specs.Prelude.{◌+◌, ◌<◌, ◌^◌, length}
use Rattle.wasm_frames.specs.Record as wire
use Rattle.walrus_model.specs.Sections.{elements_of, function_types, globals_of, memories_of, tables_of, tags_of}

-- imports and functions together are fewer than indices
abbrev pub HasRoomFor : wire.Module → Type 0
HasRoomFor r = length r.imports + length r.functions < 2 ^ 32

-- the items of each space, but types and data segments, have room for their indices
pub record FitsIndices (r : wire.Module) : Type 0 where
  pub functions : length (function_types r) < 2 ^ 32
  pub tables : length (tables_of r) < 2 ^ 32
  pub memories : length (memories_of r) < 2 ^ 32
  pub tags : length (tags_of r) < 2 ^ 32
  pub globals : length (globals_of r) < 2 ^ 32
  pub elements : length (elements_of r) < 2 ^ 32
