use Rattle.std.proofs.Common.{refl, arith}
use Rattle.std.proofs.lemmas.List.{length-map}
use Rattle.wasm_entries.specs.Record.{global_entry}
use Rattle.wasm_entries.specs.Spelling.{global_bytes}
use Rattle.wasm_entries.specs.declared.record.RawGlobal.{RawGlobal}
use Rattle.wasm_forms.proofs.Adding.{fits_free}
use Rattle.wasm_frames.specs.Frames.{Globals}
use Rattle.wasm_writer.proofs.Listed.{wrote_listed, room_listed}
use Rattle.wasm_writer.proofs.writer.Writer.global_section.Goals as goal

pub returns-clause-appends : goal.returns-clause-appends
returns-clause-appends c = wrote_listed Globals global_entry (λ (x : RawGlobal). Unit {0}) global_bytes 6 c.args.globals.now _ _ _ refl refl (λ h. omega (arith, h.0, length-map c.args.globals.now global_entry)) (λ h. fits_free c.args.globals.now (omega (arith, h, length-map c.args.globals.now global_entry))) c.list.ensures.appends

pub returns-clause-room : goal.returns-clause-room
returns-clause-room c = room_listed Globals global_entry global_bytes 6 c.args.globals.now _ _ _ refl refl c.list.ensures.room
