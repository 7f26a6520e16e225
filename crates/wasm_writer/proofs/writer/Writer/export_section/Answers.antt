use Rattle.std.proofs.Common.{refl}
use Rattle.wasm_entries.specs.Record.{export_entry}
use Rattle.wasm_entries.specs.Spelling.{export_bytes, ExportFits}
use Rattle.wasm_entries.specs.declared.record.RawExport.{RawExport}
use Rattle.wasm_forms.proofs.Adding.{fits_map, fits_unmap}
use Rattle.wasm_frames.specs.Frames.{Exports}
use Rattle.wasm_writer.proofs.Listed.{wrote_listed, room_listed}
use Rattle.wasm_writer.proofs.writer.Writer.export_section.Goals as goal

pub returns-clause-appends : goal.returns-clause-appends
returns-clause-appends c = wrote_listed Exports export_entry (λ (x : RawExport). ExportFits (export_entry x)) export_bytes 7 c.args.exports.now _ _ _ refl refl (fits_map export_entry ExportFits c.args.exports.now) (fits_unmap export_entry ExportFits c.args.exports.now) c.list.ensures.appends

pub returns-clause-room : goal.returns-clause-room
returns-clause-room c = room_listed Exports export_entry export_bytes 7 c.args.exports.now _ _ _ refl refl c.list.ensures.room
