use Rattle.wasm_forms.proofs.Keeping.{keeps_behind}
use Rattle.wasm_entries.proofs.Steps.{adds_exit}
use Rattle.wasm_entries.specs.Record.{global_entry}
use Rattle.wasm_entries.specs.Spelling.{global_bytes}
use Rattle.wasm_entries.specs.TypeSpelling.{global_type_bytes}
use Rattle.wasm_entries.proofs.entry.RawGlobalWritten.write.Goals as goal

pub returns-in_err-write_global_type-clause-adds : goal.returns-in_err-write_global_type-clause-adds
returns-in_err-write_global_type-clause-adds c = adds_exit (Unit {0}) c.from_residual.result c.in_err-write_global_type.field-0.0 c.args.to.now.items c.write_global_type.new.to.items (global_type_bytes c.args.self.now.ty) c.args.to.now.items c.write_global_type.new.to.items (global_bytes (global_entry c.args.self.now)) (Unit {0}) (Unit {0}) c.from_residual.ensures.1 (λ _. tt) c.in_err-write_global_type.ensures.adds

pub returns-in_err-write_global_type-clause-keeps : goal.returns-in_err-write_global_type-clause-keeps
returns-in_err-write_global_type-clause-keeps c = c.in_err-write_global_type.ensures.keeps

pub returns-clause-keeps : goal.returns-clause-keeps
returns-clause-keeps c = keeps_behind c.args.to.now.items c.write_global_type.new.to.items c.write_expression.new.to.items _ c.in_ok-write_global_type.ensures.adds.0 c.write_expression.ensures.keeps
