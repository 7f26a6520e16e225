use Rattle.std.proofs.Common.{◌∙◌}
use Rattle.wasm_entries.proofs.Steps.{adds_spent, adds_exit, keeps_put, put_behind}
use Rattle.wasm_forms.specs.Types.{value_bytes}
use Rattle.wasm_entries.specs.TypeSpelling.{global_type_bytes}
use Rattle.wasm_entries.proofs.limits.write_global_type.Goals as goal

pub returns-in_err-write-clause-adds : goal.returns-in_err-write-clause-adds
returns-in_err-write-clause-adds c = adds_exit (Unit {0}) c.from_residual.result c.in_err-write.field-0.0 c.args.to.now.items c.write.new.to.items (value_bytes c.args.ty.now.value) c.args.to.now.items c.write.new.to.items (global_type_bytes c.args.ty.now) (Unit {0}) (Unit {0}) c.from_residual.ensures.1 (λ _. tt) c.in_err-write.ensures.adds

pub returns-in_err-write-clause-keeps : goal.returns-in_err-write-clause-keeps
returns-in_err-write-clause-keeps c = c.in_err-write.ensures.keeps

pub returns-in_err-push-clause-adds : goal.returns-in_err-push-clause-adds
returns-in_err-push-clause-adds c = adds_spent c.from_residual-in_err-push.result c.args.to.now.items c.push.new.self.items (global_type_bytes c.args.ty.now) (Unit {0}) c.from_residual-in_err-push.ensures.1

pub returns-in_err-push-clause-keeps : goal.returns-in_err-push-clause-keeps
returns-in_err-push-clause-keeps c = keeps_put c.args.to.now.items c.push.new.self.items _ (c.in_err-push.ensures.items ∙ c.in_ok-write.ensures.adds.0)

pub returns-clause-keeps : goal.returns-clause-keeps
returns-clause-keeps c = keeps_put c.args.to.now.items c.push.new.self.items _ (put_behind c.args.to.now.items c.write.new.to.items c.push.new.self.items _ _ c.in_ok-write.ensures.adds.0 c.in_ok-push.ensures.items)
