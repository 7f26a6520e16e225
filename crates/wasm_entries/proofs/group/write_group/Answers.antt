use Rattle.std.proofs.Common.{length, ap, arith}
use Rattle.wasm_forms.proofs.Keeping.{keeps_behind}
use Rattle.wasm_entries.specs.Record.{group}
use Rattle.wasm_entries.specs.TypeSpelling.{group_bytes, GroupFits}
use Rattle.wasm_entries.proofs.Steps.{adds_spent, keeps_same}
use Rattle.wasm_entries.proofs.Groups.{wrote_many, room_many}
use Rattle.wasm_entries.proofs.group.write_group.Goals as goal

pub returns-clause-adds : goal.returns-clause-adds
returns-clause-adds c =
    wrote_many c.args.types.now.items _ c.write_vector.result c.args.to.now.items c.push.new.self.items c.write_vector.new.to.items c.deref.ensures.value
    (λ h. c.if-len-eq1.false (omega (arith, c.len.ensures, h, c.deref.ensures.len, ap length c.deref.ensures.value))) c.in_ok-push.ensures.items c.write_vector.ensures.adds

pub returns-clause-room : goal.returns-clause-room
returns-clause-room c =
    room_many c.args.types.now.items _ c.write_vector.result c.args.to.now c.push.new.self c.write_vector.new.to c.deref.ensures.value (λ h. c.if-len-eq1.false (omega (arith, c.len.ensures, h, c.deref.ensures.len, ap length c.deref.ensures.value)))
    c.in_ok-push.ensures.items c.in_ok-push.ensures.capacity c.write_vector.ensures.room

pub returns-in_err-push-clause-adds : goal.returns-in_err-push-clause-adds
returns-in_err-push-clause-adds c = adds_spent c.from_residual.result c.args.to.now.items c.push.new.self.items (group_bytes (group c.args.types.now)) (GroupFits (group c.args.types.now)) c.from_residual.ensures.1

pub returns-in_err-push-clause-keeps : goal.returns-in_err-push-clause-keeps
returns-in_err-push-clause-keeps c = keeps_same c.args.to.now.items c.push.new.self.items c.in_err-push.ensures.items

pub returns-clause-keeps : goal.returns-clause-keeps
returns-clause-keeps c = keeps_behind c.args.to.now.items c.push.new.self.items c.write_vector.new.to.items _ c.in_ok-push.ensures.items c.write_vector.ensures.keeps
