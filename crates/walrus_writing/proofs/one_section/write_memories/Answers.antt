use Rattle.std.proofs.Common.{List}
use Rattle.wasm_entries.specs.declared.record.RawLimits.{RawLimits}
use Rattle.wasm_frames.specs.Frames.{Memories}
use Rattle.walrus_writing.proofs.WritesSections.{wrote}
use Rattle.walrus_writing.proofs.one_section.write_memories.Goals as goal

pub returns : goal.returns
returns c = wrote Memories (λ (limits : List RawLimits). limits) _ _ _ _ _ c.as_slice.ensures.value (c.in_ok-raw.ensures.value, c.in_ok-raw.ensures.stand) c.in_ok-memory_section.ensures.appends
