use Rattle.std.proofs.Common.{map}
use Rattle.wasm_entries.specs.Record.{table_entry}
use Rattle.wasm_frames.specs.Frames.{Tables}
use Rattle.walrus_writing.proofs.WritesSections.{wrote}
use Rattle.walrus_writing.proofs.one_section.write_tables.Goals as goal

pub returns : goal.returns
returns c = wrote Tables (map table_entry) _ _ _ _ _ c.as_slice.ensures.value (c.in_ok-raw.ensures.value, c.in_ok-raw.ensures.stand, c.in_ok-raw.ensures.spelled) c.in_ok-table_section.ensures.appends
