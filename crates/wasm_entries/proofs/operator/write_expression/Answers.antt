use Rattle.wasm_forms.proofs.Keeping.{keeps_behind}
use Rattle.wasm_entries.proofs.Steps.{adds_exit}
use Rattle.wasm_forms.specs.Spelling.{row_bytes}
use Rattle.wasm_entries.specs.Spelling.{const_bytes, expression_bytes}
use Rattle.wasm_entries.proofs.operator.write_expression.Goals as goal

pub returns-in_err-write_operators-clause-adds : goal.returns-in_err-write_operators-clause-adds
returns-in_err-write_operators-clause-adds c = adds_exit (Unit {0}) c.from_residual.result c.in_err-write_operators.field-0.0 c.args.to.now.items c.write_operators.new.to.items (row_bytes const_bytes c.args.operators.now) c.args.to.now.items c.write_operators.new.to.items (expression_bytes c.args.operators.now) (Unit {0}) (Unit {0}) c.from_residual.ensures.1 (λ _. tt) c.in_err-write_operators.ensures.adds

pub returns-in_err-write_operators-clause-keeps : goal.returns-in_err-write_operators-clause-keeps
returns-in_err-write_operators-clause-keeps c = c.in_err-write_operators.ensures.keeps

pub returns-clause-keeps : goal.returns-clause-keeps
returns-clause-keeps c = keeps_behind c.args.to.now.items c.write_operators.new.to.items c.write_bare.new.to.items _ c.in_ok-write_operators.ensures.adds.0 c.write_bare.ensures.keeps
