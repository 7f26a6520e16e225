use Rattle.std.proofs.Common.{refl}
use Rattle.wasm_entries.specs.Record.{data_entry}
use Rattle.wasm_entries.specs.Spelling.{data_bytes, DataFits}
use Rattle.wasm_entries.specs.declared.record.RawData.{RawData}
use Rattle.wasm_forms.proofs.Adding.{fits_map, fits_unmap}
use Rattle.wasm_frames.specs.Frames.{DataSegments}
use Rattle.wasm_writer.proofs.Listed.{wrote_listed, room_listed}
use Rattle.wasm_writer.proofs.writer.Writer.data_section.Goals as goal

pub returns-clause-appends : goal.returns-clause-appends
returns-clause-appends c = wrote_listed DataSegments data_entry (λ (x : RawData). DataFits (data_entry x)) data_bytes 11 c.args.segments.now _ _ _ refl refl (fits_map data_entry DataFits c.args.segments.now) (fits_unmap data_entry DataFits c.args.segments.now) c.list.ensures.appends

pub returns-clause-room : goal.returns-clause-room
returns-clause-room c = room_listed DataSegments data_entry data_bytes 11 c.args.segments.now _ _ _ refl refl c.list.ensures.room
