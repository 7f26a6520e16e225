use Rattle.std.proofs.Common.{[], ◌∷◌, ◌∙◌, arith}
use Rattle.wasm_forms.specs.Spelling.{integer_bytes}
use Rattle.wasm_entries.proofs.Steps.{adds_spent, byte_room, keeps_same, keeps_put}
use Rattle.wasm_entries.proofs.operator.write_i64_const.Goals as goal

pub returns-in_err-push-clause-adds : goal.returns-in_err-push-clause-adds
returns-in_err-push-clause-adds c = adds_spent c.from_residual.result c.args.to.now.items c.push.new.self.items (0x42 ∷ integer_bytes c.args.value) (Unit {0}) c.from_residual.ensures.1

pub returns-in_err-push-clause-room : goal.returns-in_err-push-clause-room
returns-in_err-push-clause-room c = byte_room c.from_residual.result c.args.to.now c.push.new.self 0x42 (integer_bytes c.args.value) c.from_residual.ensures.1 c.in_err-push.ensures.full

pub returns-in_err-push-clause-keeps : goal.returns-in_err-push-clause-keeps
returns-in_err-push-clause-keeps c = keeps_same c.args.to.now.items c.push.new.self.items c.in_err-push.ensures.items

pub returns-in_err-write_s64-clause-adds : goal.returns-in_err-write_s64-clause-adds
returns-in_err-write_s64-clause-adds c = adds_spent c.from_residual-in_err-write_s64.result c.args.to.now.items c.write_s64.new.to.items (0x42 ∷ integer_bytes c.args.value) (Unit {0}) c.from_residual-in_err-write_s64.ensures.1

pub returns-in_err-write_s64-clause-keeps : goal.returns-in_err-write_s64-clause-keeps
returns-in_err-write_s64-clause-keeps c = keeps_put c.args.to.now.items c.write_s64.new.to.items (0x42 ∷ []) (c.in_err-write_s64.ensures.written ∙ c.in_ok-push.ensures.items)

pub returns-clause-room : goal.returns-clause-room
returns-clause-room c = omega (arith, c.in_ok-push.ensures.capacity, c.in_ok-write_s64.ensures.room)
