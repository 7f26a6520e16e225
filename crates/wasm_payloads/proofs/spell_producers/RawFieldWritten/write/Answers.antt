use Rattle.wasm_payloads.proofs.Fields.{field_adds, field_room}
use Rattle.wasm_payloads.proofs.spell_producers.RawFieldWritten.write.Goals as goal

pub returns-clause-adds : goal.returns-clause-adds
returns-clause-adds c = field_adds c.write_values.result c.args.self.now c.deref.result.now c.args.to.now.items c.write_name.new.to.items c.write_values.new.to.items c.deref.ensures.value c.in_ok-write_name.ensures.written.0 c.in_ok-write_name.ensures.written.1 c.write_values.ensures.adds

pub returns-clause-room : goal.returns-clause-room
returns-clause-room c = field_room c.write_values.result c.args.self.now c.deref.result.now c.args.to.now c.write_name.new.to c.write_values.new.to c.deref.ensures.value c.in_ok-write_name.ensures.written.0 c.in_ok-write_name.ensures.room c.write_values.ensures.room
