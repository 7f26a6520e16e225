use Rattle.std.proofs.Common.{map}
use Rattle.wasm_forms.proofs.Keeping.{keeps_behind}
use Rattle.wasm_entries.proofs.Steps.{adds_spent, keeps_same}
use Rattle.wasm_forms.specs.Spelling.{vector_bytes}
use Rattle.wasm_forms.specs.Writing.{FitsLength}
use Rattle.wasm_entries.specs.Record.{expression}
use Rattle.wasm_entries.specs.Spelling.{expression_bytes}
use Rattle.wasm_entries.proofs.operator.write_expressions.Goals as goal

pub returns-in_err-write_u32-clause-adds : goal.returns-in_err-write_u32-clause-adds
returns-in_err-write_u32-clause-adds c = adds_spent c.from_residual.result c.args.to.now.items c.write_u32.new.to.items (vector_bytes expression_bytes (map expression c.args.expressions.now)) (FitsLength c.args.expressions.now) c.from_residual.ensures.1

pub returns-in_err-write_u32-clause-keeps : goal.returns-in_err-write_u32-clause-keeps
returns-in_err-write_u32-clause-keeps c = keeps_same c.args.to.now.items c.write_u32.new.to.items c.in_err-write_u32.ensures.written

pub returns-clause-keeps : goal.returns-clause-keeps
returns-clause-keeps c = keeps_behind c.args.to.now.items c.write_u32.new.to.items c.write_each.new.to.items _ c.in_ok-write_u32.ensures.written c.write_each.ensures.keeps
