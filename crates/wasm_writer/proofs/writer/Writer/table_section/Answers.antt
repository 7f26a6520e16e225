use Rattle.std.proofs.Common.{refl}
use Rattle.wasm_entries.specs.Record.{table_entry}
use Rattle.wasm_entries.specs.Spelling.{table_bytes, TableFits}
use Rattle.wasm_entries.specs.declared.record.RawTable.{RawTable}
use Rattle.wasm_forms.proofs.Adding.{fits_map, fits_unmap}
use Rattle.wasm_frames.specs.Frames.{Tables}
use Rattle.wasm_writer.proofs.Listed.{wrote_listed, room_listed}
use Rattle.wasm_writer.proofs.writer.Writer.table_section.Goals as goal

pub returns-clause-appends : goal.returns-clause-appends
returns-clause-appends c = wrote_listed Tables table_entry (λ (x : RawTable). TableFits (table_entry x)) table_bytes 4 c.args.tables.now _ _ _ refl refl (fits_map table_entry TableFits c.args.tables.now) (fits_unmap table_entry TableFits c.args.tables.now) c.list.ensures.appends

pub returns-clause-room : goal.returns-clause-room
returns-clause-room c = room_listed Tables table_entry table_bytes 4 c.args.tables.now _ _ _ refl refl c.list.ensures.room
