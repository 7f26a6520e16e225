use Rattle.std.proofs.Common.{◌∙◌, ◌∷◌}
use Rattle.wasm_entries.proofs.Steps.{adds_spent, keeps_same, keeps_put, put_behind}
use Rattle.wasm_entries.proofs.operator.write_v128_const.Goals as goal

pub returns-in_err-push-clause-adds : goal.returns-in_err-push-clause-adds
returns-in_err-push-clause-adds c = adds_spent c.from_residual.result c.args.to.now.items c.push.new.self.items (0xFD ∷ 0x0C ∷ c.args.bytes.now) (Unit {0}) c.from_residual.ensures.1

pub returns-in_err-push-clause-keeps : goal.returns-in_err-push-clause-keeps
returns-in_err-push-clause-keeps c = keeps_same c.args.to.now.items c.push.new.self.items c.in_err-push.ensures.items

pub returns-in_err-push-2-clause-adds : goal.returns-in_err-push-2-clause-adds
returns-in_err-push-2-clause-adds c = adds_spent c.from_residual-in_err-push-2.result c.args.to.now.items c.push-2.new.self.items (0xFD ∷ 0x0C ∷ c.args.bytes.now) (Unit {0}) c.from_residual-in_err-push-2.ensures.1

pub returns-in_err-push-2-clause-keeps : goal.returns-in_err-push-2-clause-keeps
returns-in_err-push-2-clause-keeps c = keeps_put c.args.to.now.items c.push-2.new.self.items _ (c.in_err-push-2.ensures.items ∙ c.in_ok-push.ensures.items)

pub returns-in_err-extend_from_slice-clause-adds : goal.returns-in_err-extend_from_slice-clause-adds
returns-in_err-extend_from_slice-clause-adds c = adds_spent c.from_residual-in_err-extend_from_slice.result c.args.to.now.items c.extend_from_slice.new.self.items (0xFD ∷ 0x0C ∷ c.args.bytes.now) (Unit {0}) c.from_residual-in_err-extend_from_slice.ensures.1

pub returns-in_err-extend_from_slice-clause-keeps : goal.returns-in_err-extend_from_slice-clause-keeps
returns-in_err-extend_from_slice-clause-keeps c = keeps_put c.args.to.now.items c.extend_from_slice.new.self.items _ (c.in_err-extend_from_slice.ensures.items ∙ (put_behind c.args.to.now.items c.push.new.self.items c.push-2.new.self.items _ _ c.in_ok-push.ensures.items c.in_ok-push-2.ensures.items))

pub returns-clause-keeps : goal.returns-clause-keeps
returns-clause-keeps c = keeps_put c.args.to.now.items c.extend_from_slice.new.self.items _ (put_behind c.args.to.now.items c.push-2.new.self.items c.extend_from_slice.new.self.items _ _ (put_behind c.args.to.now.items c.push.new.self.items c.push-2.new.self.items _ _ c.in_ok-push.ensures.items c.in_ok-push-2.ensures.items) c.in_ok-extend_from_slice.ensures.items)
