use Rattle.std.proofs.Common.{map}
use Rattle.wasm_entries.specs.Record.{data_entry}
use Rattle.wasm_frames.specs.Frames.{DataSegments}
use Rattle.walrus_writing.proofs.WritesSections.{wrote}
use Rattle.walrus_writing.proofs.behind.write_data.Goals as goal

pub returns : goal.returns
returns c = wrote DataSegments (map data_entry) _ _ _ _ _ c.as_slice.ensures.value (c.in_ok-raw.ensures.value, c.in_ok-raw.ensures.stand, c.in_ok-raw.ensures.spelled) c.in_ok-append_data.ensures
