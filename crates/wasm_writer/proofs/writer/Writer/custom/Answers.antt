use Rattle.std.proofs.Common.{refl}
use Rattle.std.proofs.lemmas.Result.{err_from_is_err_and}
use Rattle.wasm_forms.specs.Writing.{FitsLength}
use Rattle.wasm_frames.specs.Record.{custom_record}
use Rattle.wasm_frames.specs.Spelling.{custom_bytes}
use Rattle.wasm_writer.proofs.Opened.{content_wrote, content_room, refused_room}
use Rattle.wasm_writer.proofs.writer.Writer.custom.Goals as goal

pub returns-clause-appends : goal.returns-clause-appends
returns-clause-appends c =
    let told = c.in_ok-size.ensures c.args.custom.now.bytes.now refl in
    content_wrote c.write.result c.args.self.now c.open.new.self (record { bytes = c.write.new.to }) 0 c.in_ok-size.size (custom_bytes (custom_record c.args.custom.now)) (FitsLength c.args.custom.now.name.now) told.0 told.1 told.2
    (record { bytes = c.in_ok-open.ensures.opened.0; ready = c.in_ok-open.ensures.ready; kept = c.in_ok-open.ensures.kept }) c.write.ensures.adds c.write.ensures.room

pub returns-clause-room : goal.returns-clause-room
returns-clause-room c =
    let told = c.in_ok-size.ensures c.args.custom.now.bytes.now refl in
    content_room c.write.result c.args.self.now c.open.new.self (record { bytes = c.write.new.to }) 0 c.in_ok-size.size (custom_bytes (custom_record c.args.custom.now)) (FitsLength c.args.custom.now.name.now) told.0 told.1 told.2
    (record { bytes = c.in_ok-open.ensures.opened.0; ready = c.in_ok-open.ensures.ready; kept = c.in_ok-open.ensures.kept }) c.write.ensures.adds c.write.ensures.room

pub returns-in_err-open-clause-room : goal.returns-in_err-open-clause-room
returns-in_err-open-clause-room c =
    let p = err_from_is_err_and c.from_residual-in_err-open.result c.from_residual-in_err-open.ensures.1 in
    let told = c.in_ok-size.ensures c.args.custom.now.bytes.now refl in
    rw (p.1, p.2) (refused_room c.in_err-open.field-0.0 c.args.self.now c.open.new.self 0 c.in_ok-size.size (custom_bytes (custom_record c.args.custom.now)) told.0 c.in_err-open.ensures.opened c.in_err-open.ensures.full)
