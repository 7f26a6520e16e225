use Rattle.std.proofs.Common.{refl}
use Rattle.wasm_entries.specs.Record.{element_entry}
use Rattle.wasm_entries.specs.Spelling.{element_bytes, ElementFits}
use Rattle.wasm_entries.specs.declared.record.RawElement.{RawElement}
use Rattle.wasm_forms.proofs.Adding.{fits_map, fits_unmap}
use Rattle.wasm_frames.specs.Frames.{Elements}
use Rattle.wasm_writer.proofs.Listed.{wrote_listed, room_listed}
use Rattle.wasm_writer.proofs.writer.Writer.element_section.Goals as goal

pub returns-clause-appends : goal.returns-clause-appends
returns-clause-appends c = wrote_listed Elements element_entry (λ (x : RawElement). ElementFits (element_entry x)) element_bytes 9 c.args.elements.now _ _ _ refl refl (fits_map element_entry ElementFits c.args.elements.now) (fits_unmap element_entry ElementFits c.args.elements.now) c.list.ensures.appends

pub returns-clause-room : goal.returns-clause-room
returns-clause-room c = room_listed Elements element_entry element_bytes 9 c.args.elements.now _ _ _ refl refl c.list.ensures.room
