use Rattle.std.proofs.Common.{refl}
use Rattle.wasm_entries.specs.Record.{import_entry}
use Rattle.wasm_entries.specs.Spelling.{import_bytes, ImportFits}
use Rattle.wasm_entries.specs.declared.record.RawImport.{RawImport}
use Rattle.wasm_forms.proofs.Adding.{fits_map, fits_unmap}
use Rattle.wasm_frames.specs.Frames.{Imports}
use Rattle.wasm_writer.proofs.Listed.{wrote_listed, room_listed}
use Rattle.wasm_writer.proofs.writer.Writer.import_section.Goals as goal

pub returns-clause-appends : goal.returns-clause-appends
returns-clause-appends c = wrote_listed Imports import_entry (λ (x : RawImport). ImportFits (import_entry x)) import_bytes 2 c.args.imports.now _ _ _ refl refl (fits_map import_entry ImportFits c.args.imports.now) (fits_unmap import_entry ImportFits c.args.imports.now) c.list.ensures.appends

pub returns-clause-room : goal.returns-clause-room
returns-clause-room c = room_listed Imports import_entry import_bytes 2 c.args.imports.now _ _ _ refl refl c.list.ensures.room
