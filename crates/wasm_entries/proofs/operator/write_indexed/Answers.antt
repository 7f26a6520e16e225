use Rattle.std.proofs.Common.{[], ◌∷◌, ◌∙◌, length, arith}
use Rattle.wasm_forms.specs.Spelling.{number_bytes}
use Rattle.wasm_entries.proofs.Steps.{adds_spent, room_spent, byte_room, keeps_same, keeps_put, put_behind}
use Rattle.wasm_entries.proofs.operator.write_indexed.Goals as goal

pub returns-in_err-push-clause-adds : goal.returns-in_err-push-clause-adds
returns-in_err-push-clause-adds c = adds_spent c.from_residual.result c.args.to.now.items c.push.new.self.items (c.args.byte ∷ number_bytes c.args.index) (Unit {0}) c.from_residual.ensures.1

pub returns-in_err-push-clause-room : goal.returns-in_err-push-clause-room
returns-in_err-push-clause-room c = byte_room c.from_residual.result c.args.to.now c.push.new.self c.args.byte (number_bytes c.args.index) c.from_residual.ensures.1 c.in_err-push.ensures.full

pub returns-in_err-push-clause-keeps : goal.returns-in_err-push-clause-keeps
returns-in_err-push-clause-keeps c = keeps_same c.args.to.now.items c.push.new.self.items c.in_err-push.ensures.items

pub returns-in_err-write_u32-clause-adds : goal.returns-in_err-write_u32-clause-adds
returns-in_err-write_u32-clause-adds c = adds_spent c.from_residual-in_err-write_u32.result c.args.to.now.items c.write_u32.new.to.items (c.args.byte ∷ number_bytes c.args.index) (Unit {0}) c.from_residual-in_err-write_u32.ensures.1

pub returns-in_err-write_u32-clause-room : goal.returns-in_err-write_u32-clause-room
returns-in_err-write_u32-clause-room c = room_spent c.from_residual-in_err-write_u32.result c.args.to.now c.push.new.self c.write_u32.new.to (c.args.byte ∷ []) (c.args.byte ∷ number_bytes c.args.index) (length (number_bytes c.args.index)) c.from_residual-in_err-write_u32.ensures.1 c.in_ok-push.ensures.items c.in_ok-push.ensures.capacity c.in_err-write_u32.ensures.room (omega arith)

pub returns-in_err-write_u32-clause-keeps : goal.returns-in_err-write_u32-clause-keeps
returns-in_err-write_u32-clause-keeps c = keeps_put c.args.to.now.items c.write_u32.new.to.items (c.args.byte ∷ []) (c.in_err-write_u32.ensures.written ∙ c.in_ok-push.ensures.items)

pub returns-clause-adds : goal.returns-clause-adds
returns-clause-adds c = (put_behind c.args.to.now.items c.push.new.self.items c.write_u32.new.to.items (c.args.byte ∷ []) (number_bytes c.args.index) c.in_ok-push.ensures.items c.in_ok-write_u32.ensures.written, tt)

pub returns-clause-room : goal.returns-clause-room
returns-clause-room c = omega (arith, c.in_ok-push.ensures.capacity, c.in_ok-write_u32.ensures.room)

pub returns-clause-keeps : goal.returns-clause-keeps
returns-clause-keeps c = keeps_put c.args.to.now.items c.write_u32.new.to.items (c.args.byte ∷ number_bytes c.args.index) (put_behind c.args.to.now.items c.push.new.self.items c.write_u32.new.to.items (c.args.byte ∷ []) (number_bytes c.args.index) c.in_ok-push.ensures.items c.in_ok-write_u32.ensures.written)
