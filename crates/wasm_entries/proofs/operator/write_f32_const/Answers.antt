use Rattle.std.proofs.Common.{[], ◌∷◌, ◌∙◌, length, arith}
use Rattle.wasm_forms.specs.Spelling.{f32_bytes}
use Rattle.wasm_entries.proofs.Steps.{adds_spent, room_spent, byte_room, keeps_same, keeps_put, put_behind}
use Rattle.wasm_entries.proofs.operator.write_f32_const.Goals as goal

pub returns-in_err-push-clause-adds : goal.returns-in_err-push-clause-adds
returns-in_err-push-clause-adds c = adds_spent c.from_residual.result c.args.to.now.items c.push.new.self.items (0x43 ∷ f32_bytes c.args.bits) (Unit {0}) c.from_residual.ensures.1

pub returns-in_err-push-clause-room : goal.returns-in_err-push-clause-room
returns-in_err-push-clause-room c = byte_room c.from_residual.result c.args.to.now c.push.new.self 0x43 (f32_bytes c.args.bits) c.from_residual.ensures.1 c.in_err-push.ensures.full

pub returns-in_err-push-clause-keeps : goal.returns-in_err-push-clause-keeps
returns-in_err-push-clause-keeps c = keeps_same c.args.to.now.items c.push.new.self.items c.in_err-push.ensures.items

pub returns-in_err-write_f32-clause-adds : goal.returns-in_err-write_f32-clause-adds
returns-in_err-write_f32-clause-adds c = adds_spent c.from_residual-in_err-write_f32.result c.args.to.now.items c.write_f32.new.to.items (0x43 ∷ f32_bytes c.args.bits) (Unit {0}) c.from_residual-in_err-write_f32.ensures.1

pub returns-in_err-write_f32-clause-room : goal.returns-in_err-write_f32-clause-room
returns-in_err-write_f32-clause-room c = room_spent c.from_residual-in_err-write_f32.result c.args.to.now c.push.new.self c.write_f32.new.to (0x43 ∷ []) (0x43 ∷ f32_bytes c.args.bits) (length (f32_bytes c.args.bits)) c.from_residual-in_err-write_f32.ensures.1 c.in_ok-push.ensures.items c.in_ok-push.ensures.capacity c.in_err-write_f32.ensures.room (omega arith)

pub returns-in_err-write_f32-clause-keeps : goal.returns-in_err-write_f32-clause-keeps
returns-in_err-write_f32-clause-keeps c = keeps_put c.args.to.now.items c.write_f32.new.to.items (0x43 ∷ []) (c.in_err-write_f32.ensures.written ∙ c.in_ok-push.ensures.items)

pub returns-clause-adds : goal.returns-clause-adds
returns-clause-adds c = (put_behind c.args.to.now.items c.push.new.self.items c.write_f32.new.to.items (0x43 ∷ []) (f32_bytes c.args.bits) c.in_ok-push.ensures.items c.in_ok-write_f32.ensures.written, tt)

pub returns-clause-room : goal.returns-clause-room
returns-clause-room c = omega (arith, c.in_ok-push.ensures.capacity, c.in_ok-write_f32.ensures.room)

pub returns-clause-keeps : goal.returns-clause-keeps
returns-clause-keeps c = keeps_put c.args.to.now.items c.write_f32.new.to.items (0x43 ∷ f32_bytes c.args.bits) (put_behind c.args.to.now.items c.push.new.self.items c.write_f32.new.to.items (0x43 ∷ []) (f32_bytes c.args.bits) c.in_ok-push.ensures.items c.in_ok-write_f32.ensures.written)
