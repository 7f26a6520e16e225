use Rattle.std.proofs.Common.{◌∙◌, map}
use Rattle.wasm_forms.proofs.Keeping.{keeps_behind}
use Rattle.wasm_entries.proofs.Steps.{adds_spent, adds_exit, keeps_same, keeps_put, put_behind}
use Rattle.wasm_forms.specs.Writing.{FitsLength}
use Rattle.wasm_forms.specs.Types.{reference_bytes}
use Rattle.wasm_entries.specs.Record.{Expressions, expression, element_mode}
use Rattle.wasm_entries.specs.Spelling.{element_spelled, expression_bytes}
use Rattle.wasm_entries.proofs.segment.write_typed.Goals as goal

pub returns-in_err-push-in-Active-None-default-clause-adds : goal.returns-in_err-push-in-Active-None-default-clause-adds
returns-in_err-push-in-Active-None-default-clause-adds c = adds_spent c.from_residual.result c.args.to.now.items c.push.new.self.items (element_spelled (element_mode c.args.mode.now) (Expressions c.args.ty.now (map expression c.args.expressions.now))) (FitsLength c.args.expressions.now) c.from_residual.ensures.1

pub returns-in_err-push-in-Active-None-default-clause-keeps : goal.returns-in_err-push-in-Active-None-default-clause-keeps
returns-in_err-push-in-Active-None-default-clause-keeps c = keeps_same c.args.to.now.items c.push.new.self.items c.in_err-push-in-Active-None-default.ensures.items

pub returns-in_err-write_expression-in-Active-None-default-clause-adds : goal.returns-in_err-write_expression-in-Active-None-default-clause-adds
returns-in_err-write_expression-in-Active-None-default-clause-adds c = adds_exit (Unit {0}) c.from_residual-in_err-write_expression-in-Active-None-default.result c.in_err-write_expression-in-Active-None-default.field-0.0 c.push.new.self.items c.write_expression.new.to.items (expression_bytes c.operators.result.now) c.args.to.now.items c.write_expression.new.to.items (element_spelled (element_mode c.args.mode.now) (Expressions c.args.ty.now (map expression c.args.expressions.now))) (Unit {0}) (FitsLength c.args.expressions.now) c.from_residual-in_err-write_expression-in-Active-None-default.ensures.1 (λ _. tt) c.in_err-write_expression-in-Active-None-default.ensures.adds

pub returns-in_err-write_expression-in-Active-None-default-clause-keeps : goal.returns-in_err-write_expression-in-Active-None-default-clause-keeps
returns-in_err-write_expression-in-Active-None-default-clause-keeps c = keeps_behind c.args.to.now.items c.push.new.self.items c.write_expression.new.to.items _ c.in_ok-push-in-Active-None-default.ensures.items c.in_err-write_expression-in-Active-None-default.ensures.keeps

pub returns-in_err-push-in-Passive-clause-adds : goal.returns-in_err-push-in-Passive-clause-adds
returns-in_err-push-in-Passive-clause-adds c = adds_spent c.from_residual-in_err-push-in-Passive.result c.args.to.now.items c.push-in-Passive.new.self.items (element_spelled (element_mode c.args.mode.now) (Expressions c.args.ty.now (map expression c.args.expressions.now))) (FitsLength c.args.expressions.now) c.from_residual-in_err-push-in-Passive.ensures.1

pub returns-in_err-push-in-Passive-clause-keeps : goal.returns-in_err-push-in-Passive-clause-keeps
returns-in_err-push-in-Passive-clause-keeps c = keeps_same c.args.to.now.items c.push-in-Passive.new.self.items c.in_err-push-in-Passive.ensures.items

pub returns-in_err-write_reference_type-in-Passive-clause-adds : goal.returns-in_err-write_reference_type-in-Passive-clause-adds
returns-in_err-write_reference_type-in-Passive-clause-adds c = adds_exit (Unit {0}) c.from_residual-in_err-write_reference_type-in-Passive.result c.in_err-write_reference_type-in-Passive.field-0.0 c.push-in-Passive.new.self.items c.write_reference_type-in-Passive.new.to.items (reference_bytes c.args.ty.now) c.args.to.now.items c.write_reference_type-in-Passive.new.to.items (element_spelled (element_mode c.args.mode.now) (Expressions c.args.ty.now (map expression c.args.expressions.now))) (Unit {0}) (FitsLength c.args.expressions.now) c.from_residual-in_err-write_reference_type-in-Passive.ensures.1 (λ _. tt) c.in_err-write_reference_type-in-Passive.ensures.adds

pub returns-in_err-write_reference_type-in-Passive-clause-keeps : goal.returns-in_err-write_reference_type-in-Passive-clause-keeps
returns-in_err-write_reference_type-in-Passive-clause-keeps c = keeps_behind c.args.to.now.items c.push-in-Passive.new.self.items c.write_reference_type-in-Passive.new.to.items _ c.in_ok-push-in-Passive.ensures.items c.in_err-write_reference_type-in-Passive.ensures.keeps

pub returns-in_err-push-in-Active-Some-default-clause-adds : goal.returns-in_err-push-in-Active-Some-default-clause-adds
returns-in_err-push-in-Active-Some-default-clause-adds c = adds_spent c.from_residual-in_err-push-in-Active-Some-default.result c.args.to.now.items c.push-in-Active-Some-default.new.self.items (element_spelled (element_mode c.args.mode.now) (Expressions c.args.ty.now (map expression c.args.expressions.now))) (FitsLength c.args.expressions.now) c.from_residual-in_err-push-in-Active-Some-default.ensures.1

pub returns-in_err-push-in-Active-Some-default-clause-keeps : goal.returns-in_err-push-in-Active-Some-default-clause-keeps
returns-in_err-push-in-Active-Some-default-clause-keeps c = keeps_same c.args.to.now.items c.push-in-Active-Some-default.new.self.items c.in_err-push-in-Active-Some-default.ensures.items

pub returns-in_err-write_u32-in-Active-Some-default-clause-adds : goal.returns-in_err-write_u32-in-Active-Some-default-clause-adds
returns-in_err-write_u32-in-Active-Some-default-clause-adds c = adds_spent c.from_residual-in_err-write_u32-in-Active-Some-default.result c.args.to.now.items c.write_u32.new.to.items (element_spelled (element_mode c.args.mode.now) (Expressions c.args.ty.now (map expression c.args.expressions.now))) (FitsLength c.args.expressions.now) c.from_residual-in_err-write_u32-in-Active-Some-default.ensures.1

pub returns-in_err-write_u32-in-Active-Some-default-clause-keeps : goal.returns-in_err-write_u32-in-Active-Some-default-clause-keeps
returns-in_err-write_u32-in-Active-Some-default-clause-keeps c = keeps_put c.args.to.now.items c.write_u32.new.to.items _ (c.in_err-write_u32-in-Active-Some-default.ensures.written ∙ c.in_ok-push-in-Active-Some-default.ensures.items)

pub returns-in_err-write_expression-in-Active-Some-default-clause-adds : goal.returns-in_err-write_expression-in-Active-Some-default-clause-adds
returns-in_err-write_expression-in-Active-Some-default-clause-adds c = adds_exit (Unit {0}) c.from_residual-in_err-write_expression-in-Active-Some-default.result c.in_err-write_expression-in-Active-Some-default.field-0.0 c.write_u32.new.to.items c.write_expression-in-Active-Some-default.new.to.items (expression_bytes c.operators-in-Active-Some-default.result.now) c.args.to.now.items c.write_expression-in-Active-Some-default.new.to.items (element_spelled (element_mode c.args.mode.now) (Expressions c.args.ty.now (map expression c.args.expressions.now))) (Unit {0}) (FitsLength c.args.expressions.now) c.from_residual-in_err-write_expression-in-Active-Some-default.ensures.1 (λ _. tt) c.in_err-write_expression-in-Active-Some-default.ensures.adds

pub returns-in_err-write_expression-in-Active-Some-default-clause-keeps : goal.returns-in_err-write_expression-in-Active-Some-default-clause-keeps
returns-in_err-write_expression-in-Active-Some-default-clause-keeps c = keeps_behind c.args.to.now.items c.write_u32.new.to.items c.write_expression-in-Active-Some-default.new.to.items _ (put_behind c.args.to.now.items c.push-in-Active-Some-default.new.self.items c.write_u32.new.to.items _ _ c.in_ok-push-in-Active-Some-default.ensures.items c.in_ok-write_u32-in-Active-Some-default.ensures.written) c.in_err-write_expression-in-Active-Some-default.ensures.keeps

pub returns-in_err-write_reference_type-in-Active-Some-default-clause-adds : goal.returns-in_err-write_reference_type-in-Active-Some-default-clause-adds
returns-in_err-write_reference_type-in-Active-Some-default-clause-adds c = adds_exit (Unit {0}) c.from_residual-in_err-write_reference_type-in-Active-Some-default.result c.in_err-write_reference_type-in-Active-Some-default.field-0.0 c.write_expression-in-Active-Some-default.new.to.items c.write_reference_type.new.to.items (reference_bytes c.args.ty.now) c.args.to.now.items c.write_reference_type.new.to.items (element_spelled (element_mode c.args.mode.now) (Expressions c.args.ty.now (map expression c.args.expressions.now))) (Unit {0}) (FitsLength c.args.expressions.now) c.from_residual-in_err-write_reference_type-in-Active-Some-default.ensures.1 (λ _. tt) c.in_err-write_reference_type-in-Active-Some-default.ensures.adds

pub returns-in_err-write_reference_type-in-Active-Some-default-clause-keeps : goal.returns-in_err-write_reference_type-in-Active-Some-default-clause-keeps
returns-in_err-write_reference_type-in-Active-Some-default-clause-keeps c = keeps_behind c.args.to.now.items c.write_expression-in-Active-Some-default.new.to.items c.write_reference_type.new.to.items _ (put_behind c.args.to.now.items c.write_u32.new.to.items c.write_expression-in-Active-Some-default.new.to.items _ _ (put_behind c.args.to.now.items c.push-in-Active-Some-default.new.self.items c.write_u32.new.to.items _ _ c.in_ok-push-in-Active-Some-default.ensures.items c.in_ok-write_u32-in-Active-Some-default.ensures.written) c.in_ok-write_expression-in-Active-Some-default.ensures.adds.0) c.in_err-write_reference_type-in-Active-Some-default.ensures.keeps

pub returns-in_err-push-in-Declared-clause-adds : goal.returns-in_err-push-in-Declared-clause-adds
returns-in_err-push-in-Declared-clause-adds c = adds_spent c.from_residual-in_err-push-in-Declared.result c.args.to.now.items c.push-in-Declared.new.self.items (element_spelled (element_mode c.args.mode.now) (Expressions c.args.ty.now (map expression c.args.expressions.now))) (FitsLength c.args.expressions.now) c.from_residual-in_err-push-in-Declared.ensures.1

pub returns-in_err-push-in-Declared-clause-keeps : goal.returns-in_err-push-in-Declared-clause-keeps
returns-in_err-push-in-Declared-clause-keeps c = keeps_same c.args.to.now.items c.push-in-Declared.new.self.items c.in_err-push-in-Declared.ensures.items

pub returns-in_err-write_reference_type-in-Declared-clause-adds : goal.returns-in_err-write_reference_type-in-Declared-clause-adds
returns-in_err-write_reference_type-in-Declared-clause-adds c = adds_exit (Unit {0}) c.from_residual-in_err-write_reference_type-in-Declared.result c.in_err-write_reference_type-in-Declared.field-0.0 c.push-in-Declared.new.self.items c.write_reference_type-in-Declared.new.to.items (reference_bytes c.args.ty.now) c.args.to.now.items c.write_reference_type-in-Declared.new.to.items (element_spelled (element_mode c.args.mode.now) (Expressions c.args.ty.now (map expression c.args.expressions.now))) (Unit {0}) (FitsLength c.args.expressions.now) c.from_residual-in_err-write_reference_type-in-Declared.ensures.1 (λ _. tt) c.in_err-write_reference_type-in-Declared.ensures.adds

pub returns-in_err-write_reference_type-in-Declared-clause-keeps : goal.returns-in_err-write_reference_type-in-Declared-clause-keeps
returns-in_err-write_reference_type-in-Declared-clause-keeps c = keeps_behind c.args.to.now.items c.push-in-Declared.new.self.items c.write_reference_type-in-Declared.new.to.items _ c.in_ok-push-in-Declared.ensures.items c.in_err-write_reference_type-in-Declared.ensures.keeps
