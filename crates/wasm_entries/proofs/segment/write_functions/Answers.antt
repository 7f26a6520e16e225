use Rattle.std.proofs.Common.{◌∙◌}
use Rattle.wasm_forms.proofs.Keeping.{keeps_behind}
use Rattle.wasm_entries.proofs.Steps.{adds_spent, adds_exit, keeps_same, keeps_put, put_behind}
use Rattle.wasm_forms.specs.Writing.{FitsLength}
use Rattle.wasm_entries.specs.Record.{Functions, element_mode}
use Rattle.wasm_entries.specs.Spelling.{element_spelled, expression_bytes}
use Rattle.wasm_entries.proofs.segment.write_functions.Goals as goal

pub returns-in_err-push-in-Active-None-default-clause-adds : goal.returns-in_err-push-in-Active-None-default-clause-adds
returns-in_err-push-in-Active-None-default-clause-adds c = adds_spent c.from_residual.result c.args.to.now.items c.push.new.self.items (element_spelled (element_mode c.args.mode.now) (Functions c.args.functions.now)) (FitsLength c.args.functions.now) c.from_residual.ensures.1

pub returns-in_err-push-in-Active-None-default-clause-keeps : goal.returns-in_err-push-in-Active-None-default-clause-keeps
returns-in_err-push-in-Active-None-default-clause-keeps c = keeps_same c.args.to.now.items c.push.new.self.items c.in_err-push-in-Active-None-default.ensures.items

pub returns-in_err-write_expression-in-Active-None-default-clause-adds : goal.returns-in_err-write_expression-in-Active-None-default-clause-adds
returns-in_err-write_expression-in-Active-None-default-clause-adds c = adds_exit (Unit {0}) c.from_residual-in_err-write_expression-in-Active-None-default.result c.in_err-write_expression-in-Active-None-default.field-0.0 c.push.new.self.items c.write_expression.new.to.items (expression_bytes c.operators.result.now) c.args.to.now.items c.write_expression.new.to.items (element_spelled (element_mode c.args.mode.now) (Functions c.args.functions.now)) (Unit {0}) (FitsLength c.args.functions.now) c.from_residual-in_err-write_expression-in-Active-None-default.ensures.1 (λ _. tt) c.in_err-write_expression-in-Active-None-default.ensures.adds

pub returns-in_err-write_expression-in-Active-None-default-clause-keeps : goal.returns-in_err-write_expression-in-Active-None-default-clause-keeps
returns-in_err-write_expression-in-Active-None-default-clause-keeps c = keeps_behind c.args.to.now.items c.push.new.self.items c.write_expression.new.to.items _ c.in_ok-push-in-Active-None-default.ensures.items c.in_err-write_expression-in-Active-None-default.ensures.keeps

pub returns-in_err-push-in-Passive-clause-adds : goal.returns-in_err-push-in-Passive-clause-adds
returns-in_err-push-in-Passive-clause-adds c = adds_spent c.from_residual-in_err-push-in-Passive.result c.args.to.now.items c.push-in-Passive.new.self.items (element_spelled (element_mode c.args.mode.now) (Functions c.args.functions.now)) (FitsLength c.args.functions.now) c.from_residual-in_err-push-in-Passive.ensures.1

pub returns-in_err-push-in-Passive-clause-keeps : goal.returns-in_err-push-in-Passive-clause-keeps
returns-in_err-push-in-Passive-clause-keeps c = keeps_same c.args.to.now.items c.push-in-Passive.new.self.items c.in_err-push-in-Passive.ensures.items

pub returns-in_err-push-in-Passive-2-clause-adds : goal.returns-in_err-push-in-Passive-2-clause-adds
returns-in_err-push-in-Passive-2-clause-adds c = adds_spent c.from_residual-in_err-push-in-Passive-2.result c.args.to.now.items c.push-in-Passive-2.new.self.items (element_spelled (element_mode c.args.mode.now) (Functions c.args.functions.now)) (FitsLength c.args.functions.now) c.from_residual-in_err-push-in-Passive-2.ensures.1

pub returns-in_err-push-in-Passive-2-clause-keeps : goal.returns-in_err-push-in-Passive-2-clause-keeps
returns-in_err-push-in-Passive-2-clause-keeps c = keeps_put c.args.to.now.items c.push-in-Passive-2.new.self.items _ (c.in_err-push-in-Passive-2.ensures.items ∙ c.in_ok-push-in-Passive.ensures.items)

pub returns-in_err-push-in-Active-Some-default-clause-adds : goal.returns-in_err-push-in-Active-Some-default-clause-adds
returns-in_err-push-in-Active-Some-default-clause-adds c = adds_spent c.from_residual-in_err-push-in-Active-Some-default.result c.args.to.now.items c.push-in-Active-Some-default.new.self.items (element_spelled (element_mode c.args.mode.now) (Functions c.args.functions.now)) (FitsLength c.args.functions.now) c.from_residual-in_err-push-in-Active-Some-default.ensures.1

pub returns-in_err-push-in-Active-Some-default-clause-keeps : goal.returns-in_err-push-in-Active-Some-default-clause-keeps
returns-in_err-push-in-Active-Some-default-clause-keeps c = keeps_same c.args.to.now.items c.push-in-Active-Some-default.new.self.items c.in_err-push-in-Active-Some-default.ensures.items

pub returns-in_err-write_u32-in-Active-Some-default-clause-adds : goal.returns-in_err-write_u32-in-Active-Some-default-clause-adds
returns-in_err-write_u32-in-Active-Some-default-clause-adds c = adds_spent c.from_residual-in_err-write_u32-in-Active-Some-default.result c.args.to.now.items c.write_u32.new.to.items (element_spelled (element_mode c.args.mode.now) (Functions c.args.functions.now)) (FitsLength c.args.functions.now) c.from_residual-in_err-write_u32-in-Active-Some-default.ensures.1

pub returns-in_err-write_u32-in-Active-Some-default-clause-keeps : goal.returns-in_err-write_u32-in-Active-Some-default-clause-keeps
returns-in_err-write_u32-in-Active-Some-default-clause-keeps c = keeps_put c.args.to.now.items c.write_u32.new.to.items _ (c.in_err-write_u32-in-Active-Some-default.ensures.written ∙ c.in_ok-push-in-Active-Some-default.ensures.items)

pub returns-in_err-write_expression-in-Active-Some-default-clause-adds : goal.returns-in_err-write_expression-in-Active-Some-default-clause-adds
returns-in_err-write_expression-in-Active-Some-default-clause-adds c = adds_exit (Unit {0}) c.from_residual-in_err-write_expression-in-Active-Some-default.result c.in_err-write_expression-in-Active-Some-default.field-0.0 c.write_u32.new.to.items c.write_expression-in-Active-Some-default.new.to.items (expression_bytes c.operators-in-Active-Some-default.result.now) c.args.to.now.items c.write_expression-in-Active-Some-default.new.to.items (element_spelled (element_mode c.args.mode.now) (Functions c.args.functions.now)) (Unit {0}) (FitsLength c.args.functions.now) c.from_residual-in_err-write_expression-in-Active-Some-default.ensures.1 (λ _. tt) c.in_err-write_expression-in-Active-Some-default.ensures.adds

pub returns-in_err-write_expression-in-Active-Some-default-clause-keeps : goal.returns-in_err-write_expression-in-Active-Some-default-clause-keeps
returns-in_err-write_expression-in-Active-Some-default-clause-keeps c = keeps_behind c.args.to.now.items c.write_u32.new.to.items c.write_expression-in-Active-Some-default.new.to.items _ (put_behind c.args.to.now.items c.push-in-Active-Some-default.new.self.items c.write_u32.new.to.items _ _ c.in_ok-push-in-Active-Some-default.ensures.items c.in_ok-write_u32-in-Active-Some-default.ensures.written) c.in_err-write_expression-in-Active-Some-default.ensures.keeps

pub returns-in_err-push-in-Active-Some-default-2-clause-adds : goal.returns-in_err-push-in-Active-Some-default-2-clause-adds
returns-in_err-push-in-Active-Some-default-2-clause-adds c = adds_spent c.from_residual-in_err-push-in-Active-Some-default-2.result c.args.to.now.items c.push-in-Active-Some-default-2.new.self.items (element_spelled (element_mode c.args.mode.now) (Functions c.args.functions.now)) (FitsLength c.args.functions.now) c.from_residual-in_err-push-in-Active-Some-default-2.ensures.1

pub returns-in_err-push-in-Active-Some-default-2-clause-keeps : goal.returns-in_err-push-in-Active-Some-default-2-clause-keeps
returns-in_err-push-in-Active-Some-default-2-clause-keeps c = keeps_put c.args.to.now.items c.push-in-Active-Some-default-2.new.self.items _ (c.in_err-push-in-Active-Some-default-2.ensures.items ∙ (put_behind c.args.to.now.items c.write_u32.new.to.items c.write_expression-in-Active-Some-default.new.to.items _ _ (put_behind c.args.to.now.items c.push-in-Active-Some-default.new.self.items c.write_u32.new.to.items _ _ c.in_ok-push-in-Active-Some-default.ensures.items c.in_ok-write_u32-in-Active-Some-default.ensures.written) c.in_ok-write_expression-in-Active-Some-default.ensures.adds.0))

pub returns-in_err-push-in-Declared-clause-adds : goal.returns-in_err-push-in-Declared-clause-adds
returns-in_err-push-in-Declared-clause-adds c = adds_spent c.from_residual-in_err-push-in-Declared.result c.args.to.now.items c.push-in-Declared.new.self.items (element_spelled (element_mode c.args.mode.now) (Functions c.args.functions.now)) (FitsLength c.args.functions.now) c.from_residual-in_err-push-in-Declared.ensures.1

pub returns-in_err-push-in-Declared-clause-keeps : goal.returns-in_err-push-in-Declared-clause-keeps
returns-in_err-push-in-Declared-clause-keeps c = keeps_same c.args.to.now.items c.push-in-Declared.new.self.items c.in_err-push-in-Declared.ensures.items

pub returns-in_err-push-in-Declared-2-clause-adds : goal.returns-in_err-push-in-Declared-2-clause-adds
returns-in_err-push-in-Declared-2-clause-adds c = adds_spent c.from_residual-in_err-push-in-Declared-2.result c.args.to.now.items c.push-in-Declared-2.new.self.items (element_spelled (element_mode c.args.mode.now) (Functions c.args.functions.now)) (FitsLength c.args.functions.now) c.from_residual-in_err-push-in-Declared-2.ensures.1

pub returns-in_err-push-in-Declared-2-clause-keeps : goal.returns-in_err-push-in-Declared-2-clause-keeps
returns-in_err-push-in-Declared-2-clause-keeps c = keeps_put c.args.to.now.items c.push-in-Declared-2.new.self.items _ (c.in_err-push-in-Declared-2.ensures.items ∙ c.in_ok-push-in-Declared.ensures.items)
