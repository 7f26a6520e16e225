use Rattle.wasm_payloads.proofs.Entries.{locals_add, locals_room}
use Rattle.wasm_payloads.proofs.spell_names.RawLocalsWritten.write.Goals as goal

pub returns-clause-adds : goal.returns-clause-adds
returns-clause-adds c = locals_add c.write_vector.result c.args.self.now c.deref.result.now c.args.to.now.items c.write_u32.new.to.items c.write_vector.new.to.items c.deref.ensures.value c.in_ok-write_u32.ensures.written c.write_vector.ensures.adds

pub returns-clause-room : goal.returns-clause-room
returns-clause-room c = locals_room c.write_vector.result c.args.self.now c.deref.result.now c.args.to.now c.write_u32.new.to c.write_vector.new.to c.deref.ensures.value c.in_ok-write_u32.ensures.written c.in_ok-write_u32.ensures.room c.write_vector.ensures.room
